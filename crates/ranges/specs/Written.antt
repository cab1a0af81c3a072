-- What a function that stores into a slice leaves there, at every place.
use Rattle.std.specs.Prelude.{◌≡◌, List, ℕ, ◌+◌, ◌<◌}
use Rattle.numbers.specs.NumberForm.{NumberForm}
use Rattle.machine.specs.Tables.{Vector}
use Rattle.machine.specs.Products.{entry}
use Rattle.storage.specs.Views.{Kept}

-- the places from `start` on
abbrev pub from : ℕ → ℕ → ℕ
from start k = start + k

-- q is one of the first `count` places
abbrev pub Among : (ℕ → ℕ) → ℕ → ℕ → Type 0
Among place count q = (k : ℕ) × (k < count) × (q ≡ place k)

module _ (N : NumberForm) where
  open N use {Value}

  -- the first `count` places hold the entries of f, and all else is as it was
  pub record Written (place : ℕ → ℕ) (count : ℕ) (f : Vector Value) (old new : List Value) : Type 0 where
    pub value : (k : ℕ) → k < count → entry N new (place k) ≡ f k
    pub kept : Kept N (Among place count) old new
