-- What a function that writes L alone, or U alone, leaves of the factors: the other part, the dimension and the storage are as they were.
use Rattle.std.specs.Prelude.{◌≡◌, List, ℕ}
use Rattle.std.specs.Float.{Float, binary64}
use Rattle.numbers.specs.NumberForm.{ieee}
use Rattle.machine.specs.Tables.{Vector, Table}
use Rattle.ranges.specs.Written.{Written}
use Rattle.factors.specs.LUpdated.{LUpdated}
use Rattle.factors.specs.declared.Factors.{Factors}
use Rattle.factors.specs.SameStorage.{SameStorage}

-- the buffer of L is left as P says, and all else is as it was
pub record LAlone (P : (l l' : List Float) → Type 0) (old new : Factors) : Type 0 where
  pub l : P old.l.now new.l.now
  pub u : new.u.now ≡ old.u.now
  pub same_storage : SameStorage old new

-- the first `count` places of L hold the entries of f, and the rest of its buffer is as it was
abbrev pub LWritten : (place : ℕ → ℕ) (count : ℕ) (f : Vector Float) (old new : Factors) → Type 0
LWritten place count f = LAlone (Written (ieee binary64) place count f)

-- the active entries of L are what f makes of them, and the rest of its buffer is as it was
abbrev pub LRewritten : (f : Table Float → Table Float) (old new : Factors) → Type 0
LRewritten f old = LAlone (LUpdated (ieee binary64) old.stride old.n f) old

-- the first `count` places of U hold the entries of f, and the rest of its buffer is as it was
pub record UWritten (place : ℕ → ℕ) (count : ℕ) (f : Vector Float) (old new : Factors) : Type 0 where
  pub u : Written (ieee binary64) place count f old.u.now new.u.now
  pub l : new.l.now ≡ old.l.now
  pub same_storage : SameStorage old new
