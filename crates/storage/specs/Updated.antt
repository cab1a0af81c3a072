-- What an update leaves in its storage and workspaces: the one frame of the updates, of their stages and of the calls above them.
use Rattle.std.specs.Prelude.{◌≡◌, List, ℕ, ◌<◌}
use Rattle.numbers.specs.NumberForm.{NumberForm}
use Rattle.machine.specs.Tables.{State}
use Rattle.machine.specs.Calls.{Call}
use Rattle.machine.specs.Machine.{accepted}
use Rattle.machine.specs.Counts.{accepted_count}
use Rattle.machine.specs.Agreement.{Agree}
use Rattle.storage.specs.Places.{LPlace, UPlace}
use Rattle.storage.specs.Views.{state_at, Kept}

module _ (N : NumberForm) where
  open N use {Value}

  -- Workspace entries below the dimension m are free, and so are the entries of L and U that are active at m. Everything else is unchanged.
  pub record UpdateFrame (c m : ℕ) (l u y z w l' u' y' z' w' : List Value) : Type 0 where
    pub l_kept : Kept N (LPlace c m) l l'
    pub u_kept : Kept N (UPlace c m) u u'
    pub y_kept : Kept N (λ q. q < m) y y'
    pub z_kept : Kept N (λ q. q < m) z z'
    pub w_kept : Kept N (λ q. q < m) w w'

  -- The storage is left with the factors of R, in the frame at the dimension m.
  pub record Updated (c m : ℕ) (R : State Value) (l u y z w l' u' y' z' w' : List Value) : Type 0 where
    pub agree : Agree (state_at N c R.n l' u') R
    pub frame : UpdateFrame c m l u y z w l' u' y' z' w'

module _ (N : NumberForm) (E T : N.Value) where
  open N use {Value}

  -- The call is carried out, as the machine carries it out, on the state of dimension n that the storage holds: its factors, with the frame at the larger
  -- dimension m, and the number k of its pair steps.
  pub record CarriedOut (c n m : ℕ) (call : Call Value) (l u y z w l' u' y' z' w' : List Value) (k : ℕ) : Type 0 where
    pub factors : Updated N c m (accepted N E T (state_at N c n l u) call).after l u y z w l' u' y' z' w'
    pub steps : k ≡ accepted_count N E T (state_at N c n l u) call
