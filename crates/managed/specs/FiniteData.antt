-- Document 02 (m), no NaN goes into a model: 23 is given exactly where a value that a push or a replacement lends is infinite or NaN and all that is tested before
-- agrees, it names the first such place, and a call that is carried out lent finite values alone.
use Rattle.std.specs.Prelude.{◌≡◌, true, false, List, ◌↔◌, ℕ, ◌+◌, ◌<◌, length, get_or, Float}
use Rattle.std.proofs.Math.Option.{none}
use Rattle.std.specs.Float.{nan, Format}
use Rattle.std.specs.Float.Ieee.Scale.{finite}
use Rattle.machine.specs.Calls.{Call, push, replace_row, replace_column, remove, solve, solve_transpose, Answer, refused_at, number_of}
use Rattle.machine.specs.LentData.{lent_data}
use Rattle.managed.specs.Instance.{Instance}
use Rattle.managed.specs.Refusals.{lends}
use Rattle.managed.specs.Outcome.{Report}
use Rattle.managed.specs.Demands.{ManagedOutcome}

-- neither 4, 5, 6 nor 7, for the calls that lend data to the model; remove and the solves lend none
abbrev pub DataAgree : {A : Type 0} → Instance A → Call A → Type 0
DataAgree s (push row column d) = (s.n < s.c) × (length row ≡ s.n) × (length column ≡ s.n)
DataAgree s (replace_row r values) = (r < s.n) × (length values ≡ s.n)
DataAgree s (replace_column k values) = (k < s.n) × (length values ≡ s.n)
DataAgree s (remove r k) = ⊥
DataAgree s (solve b) = ⊥
DataAgree s (solve_transpose b) = ⊥

-- the value at a place of what the call lends
abbrev pub value_at : Call Float → ℕ → Float
value_at c p = get_or (lent_data c) p nan

-- an infinity or a NaN stands there
abbrev pub Offends : Call Float → ℕ → Type 0
Offends c p = (p < length (lent_data c)) × (finite (value_at c p) ≡ false)

-- What the answer a of the call c on the instance s says of the data
pub record DataNamed (s : Instance Float) (c : Call Float) (a : Answer) : Type 0 where
  -- 23 when a value there is infinite or NaN, after 7 (with all before it) and before 8, whatever the workspaces' length
  pub given : (number_of a ≡ 23) ↔ ((lends s c ≡ none) × DataAgree s c × ((p : ℕ) × Offends c p))
  -- with the first offending place
  pub first : number_of a ≡ 23 → (p : ℕ) × (a ≡ refused_at 23 p) × Offends c p × ((q : ℕ) → q < p → finite (value_at c q) ≡ true)
  -- no NaN goes into a model
  pub carried_out : number_of a ≡ 0 → (p : ℕ) → p < length (lent_data c) → finite (value_at c p) ≡ true

-- How the places of a push at dimension n are counted: the row's from 0, the column's from n, then the diagonal's, 2 × n
pub record PushPlaces (n : ℕ) (row column : List Float) (d : Float) : Type 0 where
  pub row_place : (i : ℕ) → i < n → value_at (push row column d) i ≡ get_or row i nan
  pub column_place : (i : ℕ) → i < n → value_at (push row column d) (n + i) ≡ get_or column i nan
  pub diagonal_place : value_at (push row column d) (n + n) ≡ d
  pub no_more : length (lent_data (push row column d)) ≡ n + n + 1

pub record FiniteData (F : Format) : Type 0 where
  -- the six calls, whatever they do and however they are refused
  pub calls : (c : Call Float) (s t : Instance Float) (r : Report Float) → ManagedOutcome F c s t r → DataNamed s c r.answer
  pub push_places : (n : ℕ) (row column : List Float) (d : Float) → length row ≡ n → length column ≡ n → PushPlaces n row column d
