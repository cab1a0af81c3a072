-- What it is for a function on factors to perform a step of the machine.
use Rattle.std.specs.Prelude.{List, ℕ}
use Rattle.std.specs.Float.{Float, binary64}
use Rattle.numbers.specs.NumberForm.{ieee}
use Rattle.machine.specs.Tables.{Work}
use Rattle.buffers.specs.Performed.{work_of, Performed}
use Rattle.factors.specs.declared.Factors.{Factors}
use Rattle.factors.specs.SameStorage.{SameStorage}

-- the factors and two vectors as the machine's tables
abbrev pub work_with : Factors → List Float → List Float → Work Float
work_with a y v = work_of (ieee binary64) a.stride a.l.now a.u.now y v

-- The factors a and the vectors y, v are left as b, y', v': at the factors' dimension they, y from lo below hi and v below k are what f makes of what was
-- there, and all else of the buffers is as an update may leave it (buffers/specs/Performed.antt). Dimension and storage are the same.
pub record StepPerformed (lo hi k : ℕ) (f : Work Float → Work Float) (a : Factors) (y v : List Float) (b : Factors) (y' v' : List Float) : Type 0 where
  pub performed : Performed (ieee binary64) a.stride a.n lo hi k f a.l.now a.u.now y v b.l.now b.u.now y' v'
  pub same_storage : SameStorage a b
