-- The row's column cleared, Backward, a unit row, Forward.
use mathlib.Core.Path.{◌≡◌, refl, ◌∙◌}
use mathlib.Core.Bool.{Bool, true, false, cond}
use mathlib.Core.List.{List, []}
use Prim.Native.Nat.{ℕ, zero, suc, ◌+◌, ◌-◌, ◌≤◌, ◌<◌}
use native.Mathlib.Omega.{arith}
use lib.Dec.{eqb, eqb→eq}
use Rattle.numbers.specs.NumberForm.{NumberForm}
use Rattle.machine.specs.Tables.{Table}
use Rattle.machine.specs.Products.{entry}
use Rattle.machine.specs.Forward.{forward, forward_rows, copy_dense_to_row}
use Rattle.machine.specs.Backward.{trim, backward}
use Rattle.machine.specs.Updates.{with_unit_row, bordered, column_cleared, column_taken, unit_row, pushed, row_replaced_from, row_replaced}
use Rattle.machine.specs.Calls.{replace_row}
use Rattle.machine.specs.Machine.{accepted}
use Rattle.machine.specs.Agreement.{AgreeWithin}
use Rattle.machine.specs.Counts.{forward_count, forward_rows_count, backward_count, pushed_count, row_replaced_from_count, row_replaced_count, accepted_count}
use Rattle.machine.proofs.Choice.{choose, within_from, within_trans, within_state}
use Rattle.machine.proofs.Backward.{trim_same, trim_le}
use Rattle.machine.proofs.CountLimits.{forward_count_le, backward_count_le}
use Rattle.storage.specs.Places.{l_index}
use Rattle.storage.specs.Views.{view_l, view_u}
use Rattle.storage.specs.Updated.{CarriedOut}
use Rattle.storage.proofs.Kept.{kept_more}
use Rattle.storage.proofs.Frames.{frame_then, frame_first, frame_middle, frame_last, frame_l, frame_w}
use Rattle.ranges.specs.Written.{Written}
use Rattle.buffers.specs.Performed.{work_of, Performed}
use Rattle.factors.specs.LUpdated.{LUpdated}
use Rattle.stages.proofs.StageLaws.{l_column, l_column_kept, forward_agrees, backward_agrees, forward_counted, backward_counted}

module _ (N : NumberForm) (E T : N.Value) where
  open N use {Value, zero as 𝟎}

  -- at dimension 1 the general case gives what document 01 says: as a first push
  module _ (L U : Table Value) (y : List Value) where
    single_l : (i j : ℕ) → i < 1 → j < 1 → (row_replaced_from N E T 1 L U 0 y 0).L i j ≡ (pushed N E T 0 L U [] [] (entry N y 0)).L i j
    unfolding row_replaced_from unit_row pushed bordered column_cleared forward forward_rows copy_dense_to_row
    single_l zero zero a b = refl
    single_l zero (suc j) a b = absurd (omega arith)
    single_l (suc i) j a b = absurd (omega arith)

    single_u : (i j : ℕ) → i ≤ j → j < 1 → (row_replaced_from N E T 1 L U 0 y 0).U i j ≡ (pushed N E T 0 L U [] [] (entry N y 0)).U i j
    unfolding row_replaced_from unit_row pushed bordered forward forward_rows copy_dense_to_row
    single_u zero zero a b = refl
    single_u i (suc j) a b = absurd (omega arith)
    single_u (suc i) zero a b = absurd (omega arith)

    single_row : (n r s : ℕ) → n ≡ 1 → r < n → s < n → AgreeWithin n n n 0 (row_replaced_from N E T n L U r y s) (pushed N E T 0 L U [] [] (entry N y 0))
    single_row n r s e hr hs =
        let f : r ≡ 0 = omega arith in
        let g : s ≡ 0 = omega arith in
        rw (e, f, g) (record { L = single_l; U = single_u; y = λ j a b. absurd (omega arith); v = λ j a. absurd (omega arith) })

  module _ (c n r s : ℕ) (l u y z w w₁ l₁ : List Value) {l₂ u₂ z₂ w₂ l₃ l₄ u₃ y₃ : List Value} (hc : n ≤ c) (hr : r < n) (ws : Written N (λ i. i) n (λ i. view_l N c l i r) w w₁)
      (cleared : Written N (λ i. l_index c i r) n (λ i. 𝟎) l l₁) (is-s : s ≡ trim N E 0 (n - 1) (entry N w₁))
      (p : Performed N c n 0 n n (backward N E T 0 s n) l₁ u z w₁ l₂ u₂ z₂ w₂) (unit : LUpdated N c n (with_unit_row N s r) l₂ l₃)
      (q : Performed N c n 0 n 0 (forward N E T 0 s n) l₃ u₂ y [] l₄ u₃ y₃ []) where
    selected_below : s < n
    selected_below = omega (arith, trim_le N E 0 (n - 1) (entry N w₁), is-s)

    -- the column cleared, before Backward
    row_cleared : AgreeWithin n n n n (work_of N c l₁ u z w₁) (column_taken N r (view_l N c l) (view_u N c u))
    unfolding column_cleared
    row_cleared = record {
      L = λ i j hi hj. l_column N c r n (omega arith) cleared i j hi (omega arith);
      U = λ i j a b. refl;
      y = λ j a b. absurd (omega arith);
      v = λ j h. ws.value j h;
    }

    -- the unit row in its place, before Forward
    row_placed : AgreeWithin n 0 n 0 (work_of N c l₃ u₂ y [])
        (unit_row N s r y (backward N E T 0 s n (column_taken N r (view_l N c l) (view_u N c u))))
    unfolding unit_row
    row_placed =
        let mid = backward_agrees N E T c n 0 s n n l₁ u z w₁ (omega arith) (omega arith) selected_below p row_cleared in
        record {
          L = λ i j hi hj. unit.value i j hi hj ∙ choose (eqb i s) (λ _. refl) (λ _. mid.L i j hi hj);
          U = mid.U;
          y = λ j a b. refl;
          v = λ j h. absurd (omega arith);
        }

    row_agrees : AgreeWithin n 0 n 0 (work_of N c l₄ u₃ y₃ []) (row_replaced_from N E T n (view_l N c l) (view_u N c u) r y s)
    unfolding row_replaced_from
    row_agrees = forward_agrees N E T c n 0 s n l₃ u₂ y [] (omega arith) (omega arith) selected_below (omega (arith, selected_below)) q row_placed

    chosen : s ≡ trim N E 0 (n - 1) (λ i. view_l N c l i r)
    chosen = is-s ∙ trim_same N E 0 (n - 1) _ _ (λ j h. ws.value j (omega arith))

    replaced_agrees : AgreeWithin n n n 0 (work_of N c l₄ u₃ y₃ []) (row_replaced N E T n (view_l N c l) (view_u N c u) r y)
    unfolding row_replaced
    replaced_agrees = go (eqb n 1) refl
      where
        go : (b : Bool) → eqb n 1 ≡ b → AgreeWithin n n n 0 (work_of N c l₄ u₃ y₃ [])
            (cond b (pushed N E T 0 (view_l N c l) (view_u N c u) [] [] (entry N y 0)) (row_replaced_from N E T n (view_l N c l) (view_u N c u) r y (trim N E 0 (n - 1) (λ i. view_l N c l i r))))
        go true e = within_trans (within_from (omega arith) row_agrees) (single_row (view_l N c l) (view_u N c u) y n r s (eqb→eq n 1 (rw e tt)) hr selected_below)
        go false e = rw (← chosen) (within_from (omega arith) row_agrees)

    -- at dimension 1 there is no row to eliminate, as in a first push
    replace_row_counted : {a b : ℕ} → a ≡ backward_count N E T 0 s n (work_of N c l₁ u z w₁) → b ≡ forward_count N E T 0 s n (work_of N c l₃ u₂ y [])
        → a + b ≡ row_replaced_count N E T n (view_l N c l) (view_u N c u) r y
    unfolding row_replaced_count row_replaced_from_count pushed_count forward_count forward_rows_count
    replace_row_counted {a} {b} is-a is_b = go (eqb n 1) refl
      where
        go : (t : Bool) → eqb n 1 ≡ t → a + b ≡ cond t (pushed_count N E T 0 (view_l N c l) (view_u N c u) [] [] (entry N y 0))
            (row_replaced_from_count N E T n (view_l N c l) (view_u N c u) r y (trim N E 0 (n - 1) (λ i. view_l N c l i r)))
        go true e =
            let one : n ≡ 1 = eqb→eq n 1 (rw e tt) in
            let hs = selected_below in
            let f = backward_count_le N E T 0 s n (work_of N c l₁ u z w₁) in
            let g = forward_count_le N E T 0 s n (work_of N c l₃ u₂ y []) in
            omega (arith, is-a, is_b, f, g)
        go false e =
            let f = backward_counted N E T c n 0 s n n l₁ u z w₁ (omega arith) selected_below is-a row_cleared in
            let g = forward_counted N E T c n 0 s n l₃ u₂ y [] (omega arith) selected_below (omega (arith, selected_below)) is_b row_placed in
            rw (← chosen) (λ t. f t + g t)

    pub replace_row_outcome : {a b : ℕ} → a ≡ backward_count N E T 0 s n (work_of N c l₁ u z w₁) → b ≡ forward_count N E T 0 s n (work_of N c l₃ u₂ y [])
        → CarriedOut N E T c n n (replace_row r y) l u y z w l₄ u₃ y₃ z₂ w₂ (a + b)
    unfolding accepted accepted_count
    replace_row_outcome is-a is_b = record {
      factors = record {
        agree = within_state n (omega arith) replaced_agrees;
        frame = frame_then N (frame_w N (kept_more N (λ q a. omega arith) ws.kept))
            (frame_then N (frame_l N (l_column_kept N c r n (omega arith) cleared n (omega arith) hr))
            (frame_then N (frame_first N p.frame) (frame_then N (frame_l N unit.kept) (frame_middle N (frame_last N q.frame)))));
      };
      steps = replace_row_counted is-a is_b;
    }
