-- What it is for a function on factors to carry out an update of the machine.
use Rattle.std.specs.Prelude.{List, ℕ}
use Rattle.std.specs.Float.{Float, binary64}
use Rattle.numbers.specs.NumberForm.{ieee}
use Rattle.machine.specs.Calls.{Call}
use Rattle.storage.specs.Updated.{CarriedOut}
use Rattle.factors.specs.declared.Factors.{Factors}
use Rattle.factors.specs.SameStorage.{SameStorage}

-- The call is carried out on the factors of dimension n that a holds, with tolerances E and T, in the frame at the dimension of a, which is the larger where
-- the call changes it: b and the workspaces y', z', w' are left, and it took that number of pair steps. Dimension and storage of a are the same.
pub record UpdateCarriedOut (E T : Float) (n : ℕ) (call : Call Float) (a : Factors) (y z w : List Float) (b : Factors) (y' z' w' : List Float)
    (steps : ℕ) : Type 0 where
  pub carried_out : CarriedOut (ieee binary64) E T a.stride n a.n call a.l.now a.u.now y z w b.l.now b.u.now y' z' w' steps
  pub same_storage : SameStorage a b
