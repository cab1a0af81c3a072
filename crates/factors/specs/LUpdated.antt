-- What a step on the entries of L leaves in its buffer.
use Rattle.std.specs.Prelude.{◌≡◌, List, ℕ, ◌<◌}
use Rattle.numbers.specs.NumberForm.{NumberForm}
use Rattle.machine.specs.Tables.{Table}
use Rattle.storage.specs.Places.{LPlace}
use Rattle.storage.specs.Views.{view_l, Kept}

module _ (N : NumberForm) where
  open N use {Value}

  -- L at dimension n becomes what f makes of it, and all else of its buffer is as it was
  pub record LUpdated (c n : ℕ) (f : Table Value → Table Value) (l l' : List Value) : Type 0 where
    pub value : (i j : ℕ) → i < n → j < n → view_l N c l' i j ≡ f (view_l N c l) i j
    pub kept : Kept N (LPlace c n) l l'
