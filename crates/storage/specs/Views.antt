-- The factors that buffers of capacity c hold, and what it is for a buffer to be left as it was.
use Rattle.std.specs.Prelude.{◌≡◌, List, ℕ, length, get_or}
use Rattle.numbers.specs.NumberForm.{NumberForm}
use Rattle.machine.specs.Tables.{Table, State}
use Rattle.storage.specs.Places.{l_index, u_index}

module _ (N : NumberForm) where
  open N use {Value, absent}

  abbrev pub view_l : ℕ → List Value → Table Value
  view_l c l i j = get_or l (l_index c i j) absent

  abbrev pub view_u : ℕ → List Value → Table Value
  view_u c u i j = get_or u (u_index c i j) absent

  -- the state of dimension n that they hold
  abbrev pub state_at : ℕ → ℕ → List Value → List Value → State Value
  state_at c n l u = record { n = n; L = view_l c l; U = view_u c u }

  -- a buffer outside its free places: as long as before, and the same
  pub record Kept (Free : ℕ → Type 0) (old new : List Value) : Type 0 where
    pub long : length new ≡ length old
    pub same : (q : ℕ) → ¬ Free q → get_or new q absent ≡ get_or old q absent
