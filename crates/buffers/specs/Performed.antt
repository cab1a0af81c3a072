-- How buffers stand for the machine's tables, and what it is for a function on buffers to perform a step of the machine.
use Rattle.std.specs.Prelude.{List, [], ℕ}
use Rattle.numbers.specs.NumberForm.{NumberForm}
use Rattle.machine.specs.Tables.{Work}
use Rattle.machine.specs.Products.{entry}
use Rattle.machine.specs.Agreement.{AgreeWithin}
use Rattle.storage.specs.Views.{view_l, view_u}
use Rattle.storage.specs.Updated.{UpdateFrame}

module _ (N : NumberForm) where
  open N use {Value}

  -- the factors and the two vectors that buffers of stride c hold
  abbrev pub work_of : ℕ → List Value → List Value → List Value → List Value → Work Value
  work_of c l u y v = record { L = view_l N c l; U = view_u N c u; y = entry N y; v = entry N v }

  -- The buffers l, u, y, v are left as l', u', y', v': the factors at dimension n, y from lo below hi and v below k are what f makes of what the buffers
  -- held. All else is as an update may leave it (storage/specs/Updated.antt): y and v are its first and its last workspace, and no middle one is lent.
  pub record Performed (c n lo hi k : ℕ) (f : Work Value → Work Value) (l u y v l' u' y' v' : List Value) : Type 0 where
    pub agree : AgreeWithin n lo hi k (work_of c l' u' y' v') (f (work_of c l u y v))
    pub frame : UpdateFrame N c n l u y [] v l' u' y' [] v'
