-- The column dropped, L's last column moved, and Backward.
use mathlib.Core.Path.{◌≡◌, ◌∙◌}
use mathlib.Core.List.{List, []}
use Prim.Native.Nat.{ℕ, ◌+◌, ◌-◌, ◌≤◌, ◌<◌}
use native.Mathlib.Omega.{arith}
use lib.Dec.{eqb}
use Rattle.numbers.specs.NumberForm.{NumberForm}
use Rattle.machine.specs.Tables.{Work, state_of}
use Rattle.machine.specs.Backward.{backward}
use Rattle.machine.specs.Updates.{column_copied, column_moved, column_dropped, removed}
use Rattle.machine.specs.Calls.{remove}
use Rattle.machine.specs.Machine.{accepted}
use Rattle.machine.specs.Agreement.{AgreeWithin}
use Rattle.machine.specs.Counts.{backward_count, column_dropped_count, removed_count, accepted_count}
use Rattle.machine.proofs.Choice.{choose, within_state}
use Rattle.storage.specs.Places.{l_index}
use Rattle.storage.specs.Views.{view_l, view_u}
use Rattle.storage.specs.Updated.{Updated, CarriedOut}
use Rattle.storage.proofs.Kept.{kept_more}
use Rattle.storage.proofs.Frames.{frame_then, frame_first, frame_middle, frame_l, frame_w}
use Rattle.ranges.specs.Written.{Written}
use Rattle.buffers.specs.Performed.{work_of, Performed}
use Rattle.stages.proofs.StageLaws.{l_column, l_column_kept, backward_agrees, backward_counted}

module _ (N : NumberForm) (E T : N.Value) where
  open N use {Value}

  module _ (c n r k : ℕ) (l u y z w l₁ u₁ w₁ l₂ w₂ : List Value) {y₁ : List Value} (hc : n ≤ c) (hr : r < n)
      (d : Updated N c n (state_of n (column_dropped N E T (n - 1) (view_l N c l) (view_u N c u) k)) l u y [] w l₁ u₁ y₁ [] w₁)
      (ws : Written N (λ i. i) n (λ i. view_l N c l₁ i r) w₁ w₂) (ls : Written N (λ i. l_index c i r) n (λ i. view_l N c l₁ i (n - 1)) l₁ l₂) where
    D : Work Value
    D = column_dropped N E T (n - 1) (view_l N c l) (view_u N c u) k

    -- L's last column moved, before Backward
    row_moved : AgreeWithin n (n - 1) (n - 1) n (work_of N c l₂ u₁ z w₂) (column_moved N (n - 1) r D.L D.U)
    unfolding column_copied D
    row_moved = record {
      L = λ i j hi hj. l_column N c r n (omega arith) ls i j hi (omega arith) ∙ choose (eqb j r) (λ _. d.agree.L i (n - 1) hi (omega arith)) (λ _. d.agree.L i j hi hj);
      U = d.agree.U;
      y = λ j a b. absurd (omega arith);
      v = λ j h. ws.value j h ∙ d.agree.L j r h hr;
    }

    remove_counted : {a b : ℕ} → a ≡ column_dropped_count N E T (n - 1) (view_l N c l) (view_u N c u) k → b ≡ backward_count N E T 0 (n - 1) (n - 1) (work_of N c l₂ u₁ z w₂)
        → a + b ≡ removed_count N E T (n - 1) (view_l N c l) (view_u N c u) r k
    unfolding removed_count D
    remove_counted is-a is_b =
        let f = backward_counted N E T c n 0 (n - 1) (n - 1) (n - 1) l₂ u₁ z w₂ (omega arith) (omega arith) is_b row_moved in
        λ t. is-a t + f t

    pub remove_outcome : {l₃ u₂ z₁ w₃ : List Value} {a b : ℕ} → a ≡ column_dropped_count N E T (n - 1) (view_l N c l) (view_u N c u) k
        → Performed N c n 0 (n - 1) n (backward N E T 0 (n - 1) (n - 1)) l₂ u₁ z w₂ l₃ u₂ z₁ w₃ × (b ≡ backward_count N E T 0 (n - 1) (n - 1) (work_of N c l₂ u₁ z w₂))
        → CarriedOut N E T c n n (remove r k) l u y z w l₃ u₂ y₁ z₁ w₃ (a + b)
    unfolding accepted accepted_count removed D
    remove_outcome is-a back = record {
      factors = record {
        agree = within_state (n - 1) (omega arith)
            (backward_agrees N E T c n 0 (n - 1) (n - 1) (n - 1) l₂ u₁ z w₂ (omega arith) (omega arith) (omega arith) back.0 row_moved);
        frame = frame_then N (frame_middle N d.frame) (frame_then N (frame_w N (kept_more N (λ q a. omega arith) ws.kept))
            (frame_then N (frame_l N (l_column_kept N c r n (omega arith) ls n (omega arith) hr)) (frame_first N back.0.frame)));
      };
      steps = remove_counted is-a back.1;
    }
