-- The stages of the updates on buffers: columns and rows put in place, and Backward and Forward between them.
use mathlib.Core.Path.{◌≡◌, refl, ap, ◌∙◌}
use mathlib.Core.Bool.{cond, ◌&&◌}
use mathlib.Core.List.{List, []}
use Prim.Native.Nat.{ℕ, suc, ◌+◌, ◌-◌, ◌≤◌, ◌<◌}
use native.Mathlib.Omega.{arith}
use lib.Dec.{leb, eqb, eqb→eq, leb→le, le→leb, T_not}
use lib.Ieee.Fits.{and_i, and_l, and_r, eq→eqb}
use lib.ListN.{length, set}
use lib.Seq.{get_or-set_same, get_or-set_other}
use borrow.Author.Tests.{lt-ltb, le-ltb}
use Rattle.numbers.specs.NumberForm.{NumberForm}
use Rattle.machine.specs.Tables.{Vector, Work, state_of}
use Rattle.machine.specs.Products.{entry}
use Rattle.machine.specs.Forward.{forward}
use Rattle.machine.specs.Backward.{trim, backward}
use Rattle.machine.specs.Updates.{put_column, put_selected, last_column_read, restored_from, restored, column_dropped}
use Rattle.machine.specs.Agreement.{AgreeWithin}
use Rattle.machine.specs.Counts.{forward_count, backward_count, restored_from_count, restored_count, column_dropped_count}
use Rattle.machine.proofs.Choice.{neqb→ne, pick, within_from, within_less, within_trans, within_state}
use Rattle.machine.proofs.Forward.{forward_same}
use Rattle.machine.proofs.Backward.{trim_le, trim_ge, backward_same}
use Rattle.machine.proofs.Updates.{restored_same}
use Rattle.machine.proofs.Counts.{forward_count_same, backward_count_same, restored_count_same}
use Rattle.storage.specs.Places.{l_index, u_index, LPlace, UPlace}
use Rattle.storage.specs.Views.{view_l, view_u, Kept}
use Rattle.storage.specs.Updated.{Updated}
use Rattle.storage.proofs.Kept.{kept_set, kept_more}
use Rattle.storage.proofs.Frames.{frame_all, frame_then, frame_last, frame_u, frame_y, frame_w}
use Rattle.storage.proofs.Places.{l_index_injective, u_index_injective}
use Rattle.ranges.specs.Written.{Written}
use Rattle.buffers.specs.Performed.{work_of, Performed}

module _ (N : NumberForm) where
  open N use {Value, zero as 𝟎, one as 𝟏, absent}

  -- ---- a column of L written in its first `rows` rows

  module _ (c column rows : ℕ) {f : Vector Value} {l l' : List Value} (hc : column < c) (h : Written N (λ i. l_index c i column) rows f l l') where
    pub l_column : (i j : ℕ) → i < rows → j < c → view_l N c l' i j ≡ cond (eqb j column) (f i) (view_l N c l i j)
    l_column i j hi hj =
        pick (eqb j column) (λ s. ap (view_l N c l' i) (eqb→eq j column s) ∙ h.value i hi)
        (λ s. h.kept.same _ (λ w. neqb→ne j column s (l_index_injective c i j w.0 column hj hc w.2).1))

    pub l_column_kept : (n : ℕ) → rows ≤ n → column < n → Kept N (LPlace c n) l l'
    l_column_kept n hr hn = kept_more N (λ q w. (w.0, column, omega arith, hn, w.2)) h.kept

  -- ---- a column of U written in its first `rows` rows

  module _ (c column rows : ℕ) {f : Vector Value} {u u' : List Value} (hr : rows ≤ column + 1) (hc : column < c) (h : Written N (λ i. u_index c i column) rows f u u') where
    pub u_column_other : (i j : ℕ) → i ≤ j → j < c → (j ≡ column → rows ≤ i) → view_u N c u' i j ≡ view_u N c u i j
    u_column_other i j hij hj out =
        h.kept.same _ (λ w.
        let e = u_index_injective c i j w.0 column hij hj (omega arith) hc w.2 in
        omega (arith, e.0, out e.1))

    pub u_column_kept : (n : ℕ) → column < n → Kept N (UPlace c n) u u'
    u_column_kept n hn = kept_more N (λ q w. (w.0, column, omega arith, hn, w.2)) h.kept

  -- U(i,k) takes w(i), i ≤ k
  pub column_put : (c n lo hi k : ℕ) (l u y w : List Value) {u' : List Value} {R : Work Value} → n ≤ c → k < n → Written N (λ i. u_index c i k) (k + 1) (entry N w) u u'
      → AgreeWithin n lo hi n (work_of N c l u y w) R → AgreeWithin n lo hi n (work_of N c l u' y w) (put_column k R)
  unfolding put_column
  column_put c n lo hi k l u y w {u'} hc hk h a = record {
    L = a.L;
    U = λ i j hij hj. pick (eqb j k && leb i k)
        (λ s.
        let e = eqb→eq j k (and_l (eqb j k) (leb i k) s) in
        let g = leb→le i k (and_r (eqb j k) (leb i k) s) in
        ap (view_u N c u' i) e ∙ h.value i (omega arith) ∙ a.v i (omega arith))
        (λ s. u_column_other c k (k + 1) (omega arith) (omega arith) h i j hij (omega arith)
        (λ e. absurd (T_not (eqb j k && leb i k) s (and_i (eqb j k) (leb i k) (eq→eqb e) (le→leb i k (omega arith)))))
        ∙ a.U i j hij hj);
    y = a.y;
    v = a.v;
  }

  module _ (E T : Value) where
    -- Forward on buffers that agree with S leaves buffers that agree with Forward of S, whatever stands in v
    pub forward_agrees : (c n start last columns : ℕ) (l u y v : List Value) {l' u' y' : List Value} {S : Work Value} → columns ≤ n → start ≤ last → last < n → last ≤ columns
        → Performed N c n 0 columns 0 (forward N E T start last columns) l u y [] l' u' y' [] → AgreeWithin n start columns 0 (work_of N c l u y v) S
        → AgreeWithin n start columns 0 (work_of N c l' u' y' v) (forward N E T start last columns S)
    forward_agrees c n start last columns l u y v hk hs hl hl' p a =
        let f = within_trans (within_from (omega arith) p.agree)
        (forward_same N E T n columns 0 hk start last hl hs hl' (record { L = a.L; U = a.U; y = a.y; v = λ j h. absurd (omega arith) })) in
        record { L = f.L; U = f.U; y = f.y; v = λ j h. absurd (omega arith) }

    -- Backward likewise, with v
    pub backward_agrees : (c n start selected columns lo : ℕ) (l u y v : List Value) {l' u' y' v' : List Value} {S : Work Value} → columns ≤ n → start ≤ selected → selected < n
        → Performed N c n start columns n (backward N E T start selected columns) l u y v l' u' y' v' → AgreeWithin n lo columns n (work_of N c l u y v) S
        → AgreeWithin n start columns n (work_of N c l' u' y' v') (backward N E T start selected columns S)
    backward_agrees c n start selected columns lo l u y v hk hs hl p a = within_trans p.agree (backward_same N E T n columns hk start selected lo hl hs a)

    -- and they count what it counts
    pub forward_counted : (c n start last columns : ℕ) (l u y v : List Value) {S : Work Value} {a : ℕ} → columns ≤ n → last < n → last ≤ columns
        → a ≡ forward_count N E T start last columns (work_of N c l u y []) → AgreeWithin n start columns 0 (work_of N c l u y v) S → a ≡ forward_count N E T start last columns S
    forward_counted c n start last columns l u y v hk hl hl' is-a h =
        is-a ∙ forward_count_same N E T n columns 0 hk start last hl hl' (record { L = h.L; U = h.U; y = h.y; v = λ j g. absurd (omega arith) })

    pub backward_counted : (c n start selected columns lo : ℕ) (l u y v : List Value) {S : Work Value} {a : ℕ} → columns ≤ n → selected < n
        → a ≡ backward_count N E T start selected columns (work_of N c l u y v) → AgreeWithin n lo columns n (work_of N c l u y v) S → a ≡ backward_count N E T start selected columns S
    backward_counted c n start selected columns lo l u y v hk hl is-a h = is-a ∙ backward_count_same N E T n columns hk start selected lo hl h

    -- y(k) takes v(selected)
    selected_put : (c n k s columns : ℕ) (l u y v : List Value) {S : Work Value} → columns ≤ length y → k < columns → s < n → AgreeWithin n (suc k) columns n (work_of N c l u y v) S
        → AgreeWithin n k columns n (work_of N c l u (set y k (entry N v s)) v) (put_selected k s S)
    unfolding put_selected
    selected_put c n k s columns l u y v hy hk hs a = record {
      L = a.L;
      U = a.U;
      y = λ j lo hi. pick (eqb j k)
          (λ t. ap (entry N (set y k (entry N v s))) (eqb→eq j k t) ∙ get_or-set_same y k (entry N v s) absent (omega arith) ∙ a.v s hs)
          (λ t. let ne = neqb→ne j k t in get_or-set_other y k j (entry N v s) absent ne ∙ a.y j (omega (arith, ne)) hi);
      v = a.v;
    }

    -- ---- restore

    module _ (c n k last columns s : ℕ) (l u y w y₁ w₁ : List Value) {l₁ u₁ : List Value} (hc : columns ≤ n) (hy : columns ≤ length y₁) (hk : k < last) (hl : last < n) (hl' : last ≤ columns)
        (is-s : s ≡ trim N E (suc k) last (entry N w)) (p : Performed N c n (suc k) columns n (backward N E T (suc k) s columns) l u y w l₁ u₁ y₁ w₁) where
      selected_below : s < n
      selected_below = omega (arith, trim_le N E (suc k) last (entry N w))

      -- Forward's start
      row_put : AgreeWithin n k columns 0 (work_of N c l₁ u₁ (set y₁ k (entry N w₁ s)) w₁) (put_selected k s (backward N E T (suc k) s columns (work_of N c l u y w)))
      row_put = within_less columns 0 (omega arith) (omega arith) (selected_put c n k s columns l₁ u₁ y₁ w₁ hy (omega arith) selected_below p.agree)

      restored_performed : {l₂ u₂ y₂ : List Value} → Performed N c n 0 columns 0 (forward N E T k s columns) l₁ u₁ (set y₁ k (entry N w₁ s)) [] l₂ u₂ y₂ []
          → Performed N c n k columns 0 (restored N E T k last columns) l u y w l₂ u₂ y₂ w₁
      unfolding restored restored_from
      restored_performed q =
          let a = trim_le N E (suc k) last (entry N w) in
          let b = trim_ge N E (suc k) last (entry N w) hk in
          record {
            agree = rw (← is-s) (forward_agrees c n k s columns l₁ u₁ (set y₁ k (entry N w₁ s)) w₁ hc (omega arith) (omega arith) (omega arith) q row_put);
            frame = frame_then N p.frame (frame_then N (frame_y N (kept_set N y₁ k (entry N w₁ s) (omega arith))) (frame_last N q.frame));
          }

      restored_counted : {a b : ℕ} → a ≡ backward_count N E T (suc k) s columns (work_of N c l u y w) → b ≡ forward_count N E T k s columns (work_of N c l₁ u₁ (set y₁ k (entry N w₁ s)) [])
          → a + b ≡ restored_count N E T k last columns (work_of N c l u y w)
      unfolding restored_count restored_from_count
      restored_counted is-a is_b =
          let g = trim_le N E (suc k) last (entry N w) in
          let f = forward_counted c n k s columns l₁ u₁ (set y₁ k (entry N w₁ s)) w₁ hc (omega arith) (omega arith) is_b row_put in
          rw (← is-s) (λ t. is-a t + f t)

      -- the tables, and how many pair steps they took
      pub restored_outcome : {l₂ u₂ y₂ : List Value} {a b : ℕ} → a ≡ backward_count N E T (suc k) s columns (work_of N c l u y w)
          → Performed N c n 0 columns 0 (forward N E T k s columns) l₁ u₁ (set y₁ k (entry N w₁ s)) [] l₂ u₂ y₂ [] × (b ≡ forward_count N E T k s columns (work_of N c l₁ u₁ (set y₁ k (entry N w₁ s)) []))
          → Performed N c n k columns 0 (restored N E T k last columns) l u y w l₂ u₂ y₂ w₁ × (a + b ≡ restored_count N E T k last columns (work_of N c l u y w))
      restored_outcome is-a ahead = (restored_performed ahead.0, restored_counted is-a ahead.1)

    -- ---- a column dropped

    module _ (c n k : ℕ) (l u y w : List Value) where
      module _ (u₁ w₁ : List Value) (hc : n ≤ c) (hk : k < n - 1) (ws : Written N (λ i. i) (n - 1 + 1) (λ i. view_u N c u i (n - 1)) w w₁)
          (us : Written N (λ i. u_index c i k) (k + 1) (entry N w₁) u u₁) where
        -- U's last column in w and in the place of column k
        last_column_moved : AgreeWithin n (n - 1) (n - 1) n (work_of N c l u₁ y w₁) (put_column k (last_column_read N (n - 1) (view_l N c l) (view_u N c u)))
        last_column_moved =
            column_put c n (n - 1) (n - 1) k l u y w₁ {R = last_column_read N (n - 1) (view_l N c l) (view_u N c u)} hc (omega arith) us
            (record { L = λ i j a b. refl; U = λ i j a b. refl; y = λ j a b. absurd (omega arith); v = λ j h. ws.value j (omega arith) })

        column_dropped_lem : {l' u' y' w' : List Value} → Performed N c n k (n - 1) 0 (restored N E T k (n - 1) (n - 1)) l u₁ y w₁ l' u' y' w'
            → Updated N c n (state_of n (column_dropped N E T (n - 1) (view_l N c l) (view_u N c u) k)) l u y [] w l' u' y' [] w'
        unfolding column_dropped
        column_dropped_lem r = record {
          agree = rw (lt-ltb k (n - 1) hk) (within_state n (omega arith) (within_trans r.agree
              (within_less (n - 1) 0 (omega arith) (omega arith) (restored_same N E T n (n - 1) k (omega arith) hk (n - 1) (n - 1) hk (omega arith) (omega arith) last_column_moved))));
          frame = frame_then N (frame_w N (kept_more N (λ q a. omega arith) ws.kept))
              (frame_then N (frame_u N (u_column_kept c k (k + 1) (omega arith) (omega arith) us n (omega arith))) r.frame);
        }

        column_dropped_counted : {a : ℕ} → a ≡ restored_count N E T k (n - 1) (n - 1) (work_of N c l u₁ y w₁) → a ≡ column_dropped_count N E T (n - 1) (view_l N c l) (view_u N c u) k
        unfolding column_dropped_count
        column_dropped_counted is-a =
            rw (lt-ltb k (n - 1) hk)
            (is-a ∙ restored_count_same N E T n (n - 1) k (omega arith) hk (n - 1) (n - 1) hk (omega arith) (omega arith) last_column_moved)

        -- the factors, and how many pair steps they took
        pub column_dropped_outcome : {l' u' y' w' : List Value} {a : ℕ}
            → Performed N c n k (n - 1) 0 (restored N E T k (n - 1) (n - 1)) l u₁ y w₁ l' u' y' w' × (a ≡ restored_count N E T k (n - 1) (n - 1) (work_of N c l u₁ y w₁))
            → Updated N c n (state_of n (column_dropped N E T (n - 1) (view_l N c l) (view_u N c u) k)) l u y [] w l' u' y' [] w' × (a ≡ column_dropped_count N E T (n - 1) (view_l N c l) (view_u N c u) k)
        column_dropped_outcome r = (column_dropped_lem r.0, column_dropped_counted r.1)

      -- the last column: nothing is done, and no pair step is made
      pub last_column_dropped : n - 1 ≤ k
          → Updated N c n (state_of n (column_dropped N E T (n - 1) (view_l N c l) (view_u N c u) k)) l u y [] w l u y [] w × (0 ≡ column_dropped_count N E T (n - 1) (view_l N c l) (view_u N c u) k)
      unfolding column_dropped column_dropped_count
      last_column_dropped h = (
        record { agree = rw (le-ltb k (n - 1) h) (record { n = refl; L = λ i j a b. refl; U = λ i j a b. refl }); frame = frame_all N },
        rw (le-ltb k (n - 1) h),
      )
