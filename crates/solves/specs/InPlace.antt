-- What a function that writes its answer over the vector it was given leaves, where another buffer is its work.
use Rattle.std.specs.Prelude.{List, ℕ, ◌<◌}
use Rattle.numbers.specs.NumberForm.{NumberForm}
use Rattle.machine.specs.Tables.{Vector}
use Rattle.storage.specs.Views.{Kept}
use Rattle.ranges.specs.Written.{Written}

module _ (N : NumberForm) where
  open N use {Value}

  -- the first n places of b hold the entries of f, and from n on the work is as it was
  abbrev pub WrittenInPlace : (n : ℕ) → Vector Value → (work b work' b' : List Value) → Type 0
  WrittenInPlace n f work b work' b' = Written N (λ i. i) n f b b' × Kept N (λ q. q < n) work work'
