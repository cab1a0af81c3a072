-- What an update carried out, of buffers under other names and with a workspace that it is not lent.
use mathlib.Core.Path.{◌≡◌}
use mathlib.Core.List.{List}
use Prim.Native.Nat.{ℕ}
use Rattle.numbers.specs.NumberForm.{NumberForm}
use Rattle.machine.specs.Calls.{Call}
use Rattle.storage.specs.Updated.{CarriedOut}
use Rattle.storage.proofs.Frames.{frame_middle}

-- an update that was lent its column x in place of the second workspace leaves that as it was
pub lent_otherwise : (N : NumberForm) {E T : N.Value} {c n m k : ℕ} {call : Call N.Value} {l u y x z w l' u' y' x' w' : List N.Value}
    → CarriedOut N E T c n m call l u y x w l' u' y' x' w' k → CarriedOut N E T c n m call l u y z w l' u' y' z w' k
lent_otherwise N d = record { factors = record { agree = d.factors.agree; frame = frame_middle N d.factors.frame }; steps = d.steps }

-- the same buffers of L and U under other names
pub carried_out_named : (N : NumberForm) {E T : N.Value} {c n m k : ℕ} {call : Call N.Value} {l u y z w l₁ u₁ l' u' y' z' w' : List N.Value} → l' ≡ l₁ → u' ≡ u₁
    → CarriedOut N E T c n m call l u y z w l₁ u₁ y' z' w' k → CarriedOut N E T c n m call l u y z w l' u' y' z' w' k
carried_out_named N e f d = rw (e, f) d
