-- A run of each of the six functions is an event of the list claim: what its contract tells of any run of it, whatever it was lent, is the very outcome that
-- `Happens` asks for. The contract is here by the name of its own module, so that another contract would not fit.
use contract.Lifetimes.{Lfts}
use borrow.Fn.World.{ArgsD, ResD}
use borrow.Fn.Kinds.{ended_of}
use denote.Triple.Clauses.{AtExit}
use lib.Ieee.{binary64}
use Rattle.machine.specs.Calls as calls
use Rattle.managed.specs.Instance.{instance, lent_to_solve}
use Rattle.managed.specs.Demands.{ManagedOutcome}
use Rattle.api.specs.Answers.{state_of, update_report, remove_report, solve_report}
use Rattle.api.specs.contracts.LuMod.push as push-code
use Rattle.api.proofs.LuMod.push.Kinds as push-kinds
use Rattle.api.proofs.LuMod.push.Reads as push-contract
use Rattle.api.specs.contracts.LuMod.replace_row as row-code
use Rattle.api.proofs.LuMod.replace_row.Kinds as row-kinds
use Rattle.api.proofs.LuMod.replace_row.Reads as row-contract
use Rattle.api.specs.contracts.LuMod.replace_column as column-code
use Rattle.api.proofs.LuMod.replace_column.Kinds as column-kinds
use Rattle.api.proofs.LuMod.replace_column.Reads as column-contract
use Rattle.api.specs.contracts.LuMod.remove as remove-code
use Rattle.api.proofs.LuMod.remove.Kinds as remove-kinds
use Rattle.api.proofs.LuMod.remove.Reads as remove-contract
use Rattle.api.specs.contracts.LuMod.solve_in_place as solve-code
use Rattle.api.proofs.LuMod.solve_in_place.Kinds as solve-kinds
use Rattle.api.proofs.LuMod.solve_in_place.Reads as solve-contract
use Rattle.api.specs.contracts.LuMod.solve_transpose_in_place as transpose-code
use Rattle.api.proofs.LuMod.solve_transpose_in_place.Kinds as transpose-kinds
use Rattle.api.proofs.LuMod.solve_transpose_in_place.Reads as transpose-contract

-- The arguments come as a tuple, in the order in which the functions have them, and so does what they hold afterwards.

-- an update's: the state, L, U, the workspaces, and its data
module _ {Self L U Y Z W Data : Type 0} where
  abbrev l_of : Self × (L × (U × (Y × (Z × (W × Data))))) → L
  l_of p = p.1.0

  abbrev u_of : Self × (L × (U × (Y × (Z × (W × Data))))) → U
  u_of p = p.1.1.0

  abbrev y_of : Self × (L × (U × (Y × (Z × (W × Data))))) → Y
  y_of p = p.1.1.1.0

  abbrev z_of : Self × (L × (U × (Y × (Z × (W × Data))))) → Z
  z_of p = p.1.1.1.1.0

  abbrev w_of : Self × (L × (U × (Y × (Z × (W × Data))))) → W
  w_of p = p.1.1.1.1.1.0

  abbrev data_of : Self × (L × (U × (Y × (Z × (W × Data))))) → Data
  data_of p = p.1.1.1.1.1.1

-- a solve's: the state, L, U and the right-hand side
module _ {Self L U Rhs Rest : Type 0} where
  abbrev rhs_of : Self × (L × (U × (Rhs × Rest))) → Rhs
  rhs_of p = p.1.1.1.0

-- the data are the row, the column and the diagonal
pub push_event : (κs : Lfts 7) (a : ArgsD push-code.signature κs) (r : ResD push-code.signature κs) (s : AtExit (ended_of 7 push-kinds.ps push-kinds.r) κs)
    → push-contract.Learnt κs a r s → ManagedOutcome binary64 (calls.push (data_of a).0.now (data_of a).1.0.now (data_of a).1.1.0)
    (instance (state_of a.0) (l_of a).now (u_of a).now (y_of a).now (z_of a).now (w_of a).now)
    (instance (state_of r.state) (l_of s).now (u_of s).now (y_of s).now (z_of s).now (w_of s).now) (update_report r)
push_event κs a r s h = h

-- the data are the row's index and its values
pub row_event : (κs : Lfts 6) (a : ArgsD row-code.signature κs) (r : ResD row-code.signature κs) (s : AtExit (ended_of 6 row-kinds.ps row-kinds.r) κs)
    → row-contract.Learnt κs a r s → ManagedOutcome binary64 (calls.replace_row (data_of a).0.0 (data_of a).1.0.now)
    (instance (state_of a.0) (l_of a).now (u_of a).now (y_of a).now (z_of a).now (w_of a).now)
    (instance (state_of r.state) (l_of s).now (u_of s).now (y_of s).now (z_of s).now (w_of s).now) (update_report r)
row_event κs a r s h = h

-- the data are the column's index and its values
pub column_event : (κs : Lfts 6) (a : ArgsD column-code.signature κs) (r : ResD column-code.signature κs) (s : AtExit (ended_of 6 column-kinds.ps column-kinds.r) κs)
    → column-contract.Learnt κs a r s → ManagedOutcome binary64 (calls.replace_column (data_of a).0.0 (data_of a).1.0.now)
    (instance (state_of a.0) (l_of a).now (u_of a).now (y_of a).now (z_of a).now (w_of a).now)
    (instance (state_of r.state) (l_of s).now (u_of s).now (y_of s).now (z_of s).now (w_of s).now) (update_report r)
column_event κs a r s h = h

-- the data are the row's index and the column's
pub remove_event : (κs : Lfts 5) (a : ArgsD remove-code.signature κs) (r : ResD remove-code.signature κs) (s : AtExit (ended_of 5 remove-kinds.ps remove-kinds.r) κs)
    → remove-contract.Learnt κs a r s → ManagedOutcome binary64 (calls.remove (data_of a).0.0 (data_of a).1.0.0)
    (instance (state_of a.0) (l_of a).now (u_of a).now (y_of a).now (z_of a).now (w_of a).now)
    (instance (state_of r.state) (l_of s).now (u_of s).now (y_of s).now (z_of s).now (w_of s).now) (remove_report r)
remove_event κs a r s h = h

pub solve_event : (κs : Lfts 3) (a : ArgsD solve-code.signature κs) (r : ResD solve-code.signature κs) (s : AtExit (ended_of 3 solve-kinds.ps solve-kinds.r) κs)
    → solve-contract.Learnt κs a r s → ManagedOutcome binary64 (calls.solve (rhs_of a).now)
    (lent_to_solve (state_of a.0) a.1.0.now a.1.1.0.now)
    (lent_to_solve (state_of r.state) s.1.0.now a.1.1.0.now) (solve_report r (rhs_of s).now)
solve_event κs a r s h = h

pub transpose_event : (κs : Lfts 3) (a : ArgsD transpose-code.signature κs) (r : ResD transpose-code.signature κs) (s : AtExit (ended_of 3 transpose-kinds.ps transpose-kinds.r) κs)
    → transpose-contract.Learnt κs a r s → ManagedOutcome binary64 (calls.solve_transpose (rhs_of a).now)
    (lent_to_solve (state_of a.0) a.1.0.now a.1.1.0.now)
    (lent_to_solve (state_of r.state) s.1.0.now a.1.1.0.now) (solve_report r (rhs_of s).now)
transpose_event κs a r s h = h
