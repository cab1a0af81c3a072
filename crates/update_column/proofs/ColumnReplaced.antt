-- A column in its place, and the triangle restored.
use mathlib.Core.Path.{◌≡◌, refl, ◌∙◌}
use mathlib.Core.List.{List}
use Prim.Native.Nat.{ℕ, suc, ◌+◌, ◌-◌, ◌≤◌, ◌<◌}
use native.Mathlib.Omega.{arith}
use borrow.Author.Tests.{lt-ltb, le-ltb}
use Rattle.numbers.specs.NumberForm.{NumberForm}
use Rattle.machine.specs.Products.{entry, product}
use Rattle.machine.specs.Updates.{put_column, column_product, restored, column_replaced}
use Rattle.machine.specs.Calls.{replace_column}
use Rattle.machine.specs.Machine.{accepted}
use Rattle.machine.specs.Agreement.{AgreeWithin}
use Rattle.machine.specs.Counts.{restored_count, column_replaced_count, accepted_count}
use Rattle.machine.proofs.Choice.{within_less, within_trans, within_state}
use Rattle.machine.proofs.Updates.{restored_same}
use Rattle.machine.proofs.Counts.{restored_count_same}
use Rattle.storage.specs.Places.{u_index}
use Rattle.storage.specs.Views.{view_l, view_u}
use Rattle.storage.specs.Updated.{UpdateFrame, CarriedOut}
use Rattle.storage.proofs.Kept.{kept_more}
use Rattle.storage.proofs.Frames.{frame_then, frame_middle, frame_u, frame_w}
use Rattle.ranges.specs.Written.{Written}
use Rattle.buffers.specs.Performed.{work_of, Performed}
use Rattle.stages.proofs.StageLaws.{u_column_kept, column_put}

module _ (N : NumberForm) (E T : N.Value) where
  open N use {Value}

  module _ (c n k : ℕ) (l u y z w u₁ w₁ : List Value) (hc : n ≤ c) (hk : k < n)
      (ws : Written N (λ i. i) n (product N n (view_l N c l) (entry N z)) w w₁) (us : Written N (λ i. u_index c i k) (k + 1) (entry N w₁) u u₁) where
    column_start : AgreeWithin n n n n (work_of N c l u₁ y w₁) (put_column k (column_product N n (view_l N c l) (view_u N c u) z))
    column_start =
        column_put N c n n n k l u y w₁ hc hk us (record { L = λ i j a b. refl; U = λ i j a b. refl; y = λ j a b. absurd (omega arith); v = λ j h. ws.value j h })

    -- what is written before the triangle is restored
    column_frame : UpdateFrame N c n l u y z w l u₁ y z w₁
    column_frame = frame_then N (frame_w N (kept_more N (λ q a. omega arith) ws.kept)) (frame_u N (u_column_kept N c k (k + 1) (omega arith) (omega arith) us n hk))

    -- a column below the last
    pub column_outcome : {l' u' y' w' : List Value} {a : ℕ} → suc k < n
        → Performed N c n k n 0 (restored N E T k (n - 1) n) l u₁ y w₁ l' u' y' w' × (a ≡ restored_count N E T k (n - 1) n (work_of N c l u₁ y w₁))
        → CarriedOut N E T c n n (replace_column k z) l u y z w l' u' y' z w' a
    unfolding accepted accepted_count column_replaced column_replaced_count
    column_outcome h r = record {
      factors = record {
        agree = rw (lt-ltb (suc k) n h) (within_state n (omega arith) (within_trans r.0.agree
            (within_less n 0 (omega arith) (omega arith) (restored_same N E T n n k (omega arith) hk (n - 1) n (omega arith) (omega arith) (omega arith) column_start))));
        frame = frame_then N column_frame (frame_middle N r.0.frame);
      };
      steps = rw (lt-ltb (suc k) n h) (r.1 ∙ restored_count_same N E T n n k (omega arith) hk (n - 1) n (omega arith) (omega arith) (omega arith) column_start);
    }

    -- the last: no pair step is made
    pub last_column_outcome : n ≤ suc k → CarriedOut N E T c n n (replace_column k z) l u y z w l u₁ y z w₁ 0
    unfolding accepted accepted_count column_replaced column_replaced_count
    last_column_outcome h = record {
      factors = record { agree = rw (le-ltb (suc k) n h) (within_state n (omega arith) column_start); frame = column_frame };
      steps = rw (le-ltb (suc k) n h);
    }
