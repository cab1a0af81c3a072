-- What applying a pair step to pairs of one slice, or of two, leaves there, at every place.
use Rattle.std.specs.Prelude.{◌≡◌, Bool, List, ◌⊎◌, ℕ, ◌+◌, ◌<◌, length}
use Rattle.numbers.specs.NumberForm.{NumberForm}
use Rattle.numbers.specs.PairStep.{first, second}
use Rattle.machine.specs.Products.{entry}
use Rattle.storage.specs.Views.{Kept}
use Rattle.ranges.specs.Written.{from, Among, Written}

module _ (N : NumberForm) where
  open N use {Value}

  -- a pair step with that swap and m applied to `count` pairs of one slice, from x (first) and from y (second) on; all else is as it was
  pub record RowsTransformed (swap : Bool) (m : Value) (x y count : ℕ) (old new : List Value) : Type 0 where
    pub firsts : (k : ℕ) → k < count → entry N new (x + k) ≡ first N swap (entry N old (x + k)) (entry N old (y + k))
    pub seconds : (k : ℕ) → k < count → entry N new (y + k) ≡ second N swap m (entry N old (x + k)) (entry N old (y + k))
    pub kept : Kept N (λ q. Among (from x) count q ⊎ Among (from y) count q) old new

  -- that pair step applied to all pairs of two slices of one length, place by place
  abbrev pub SlicesTransformed : Bool → Value → (xs ys xs' ys' : List Value) → Type 0
  SlicesTransformed swap m xs ys xs' ys' =
      Written N (λ k. k) (length xs) (λ k. first N swap (entry N xs k) (entry N ys k)) xs xs'
      × Written N (λ k. k) (length xs) (λ k. second N swap m (entry N xs k) (entry N ys k)) ys ys'
