-- A row of Backward on buffers is a row of Backward on the tables that they hold.
use mathlib.Core.Path.{◌≡◌, refl, sym, ap, ◌∙◌}
use mathlib.Core.Bool.{Bool, true, false, ◌&&◌}
use mathlib.Core.List.{List}
use Prim.Native.Nat.{ℕ, ◌+◌, ◌-◌, ◌*◌, ◌≤◌, ◌<◌}
use native.Mathlib.Omega.{arith}
use lib.Dec.{leb, ltb, eqb, eqb→eq}
use lib.Ieee.Fits.{and_l, and_r}
use lib.ListN.{length, set, length-set}
use lib.Seq.{get_or-set_same, get_or-set_other}
use Rattle.numbers.specs.NumberForm.{NumberForm}
use Rattle.numbers.specs.PairStep.{Step, step_of, pair_step, first, second}
use Rattle.machine.specs.Products.{entry}
use Rattle.machine.specs.Backward.{clear_dense, backward_skips, backward_transform, backward_row}
use Rattle.machine.specs.Counts.{backward_row_count}
use Rattle.machine.proofs.Choice.{neqb→ne, pick, in_range, out_of_range}
use Rattle.storage.specs.Places.{u_index}
use Rattle.storage.specs.Views.{view_u}
use Rattle.storage.proofs.Kept.{kept_all, kept_set, kept_then, kept_more}
use Rattle.storage.proofs.Frames.{frame_y}
use Rattle.transforms.specs.RowsTransformed.{RowsTransformed}
use Rattle.transforms.proofs.Pairs.{RangesTransformed}
use Rattle.ranges.proofs.RowParts.{part_place, outside_part, part_free, left_out}
use Rattle.buffers.specs.Performed.{work_of, Performed}
use Rattle.buffers.proofs.Buffers.{l_transformed, l_transformed_kept}

module _ (N : NumberForm) where
  open N use {Value, zero as 𝟎, mul, abs, le, absent}

  -- ---- dense(row) becomes +0

  pub dense_cleared : (c n columns row k : ℕ) (l u y v : List Value) → columns ≤ n → row < columns → columns ≤ length y
      → Performed N c n 0 columns k (clear_dense N row) l u y v l u (set y row 𝟎) v
  unfolding clear_dense
  dense_cleared c n columns row k l u y v hk hr long = record {
    agree = record {
      L = λ i j a b. refl;
      U = λ i j a b. refl;
      y = λ j a b. pick (eqb j row)
          (λ s. ap (entry N (set y row 𝟎)) (eqb→eq j row s) ∙ get_or-set_same y row 𝟎 absent (omega arith))
          (λ s. get_or-set_other y row j 𝟎 absent (neqb→ne j row s));
      v = λ j a. refl;
    };
    frame = frame_y N (kept_set N y row 𝟎 (omega arith));
  }

  -- ---- the pair step made and applied

  -- x and z are what the pair step left of v(selected) and v(row)
  module _ (c n columns row selected d : ℕ) (l u y v : List Value) {l' u' y' : List Value} (x z : Value) (swap : Bool) (m : Value)
      (hc : n ≤ c) (hk : columns ≤ n) (hr : row < selected) (hs : selected < n) (hs' : selected ≤ columns) (is-d : d ≡ u_index c row row) (v-long : n ≤ length v)
      (cleared : z ≡ 𝟎)
      (pairs : RangesTransformed N swap m row d (columns - row) y u y' u')
      (ls : RowsTransformed N swap m (selected * c) (row * c) n l l') where
    module _ (j : ℕ) (h : row ≤ j) (g : j < columns) where
      back : row + (j - row) ≡ j
      back = omega arith

      place : d + (j - row) ≡ u_index c row j
      place = part_place c row row (columns - row) d (omega arith) (omega arith) is-d (j - row) (omega arith) ∙ ap (u_index c row) back

      row_u : view_u N c u' row j ≡ second N swap m (entry N y j) (view_u N c u row j)
      row_u = ap (entry N u') (sym place) ∙ pairs.1.value (j - row) (omega arith) ∙ (λ t. second N swap m (entry N y (back t)) (entry N u (place t)))

      row_y : entry N y' j ≡ first N swap (entry N y j) (view_u N c u row j)
      row_y = ap (entry N y') (sym back) ∙ pairs.0.value (j - row) (omega arith) ∙ (λ t. first N swap (entry N y (back t)) (entry N u (place t)))

    transformed_u : (i j : ℕ) → i ≤ j → j < n → view_u N c u' i j ≡ (backward_transform N selected columns row (step_of x swap m) (work_of N c l u y v)).U i j
    unfolding backward_transform
    transformed_u i j hij hj =
        pick (eqb i row && (leb row j && ltb j columns))
        (λ s.
        let e = eqb→eq i row (and_l (eqb i row) (leb row j && ltb j columns) s) in
        let f = in_range row columns j (and_r (eqb i row) (leb row j && ltb j columns) s) in
        rw e (row_u j f.0 f.1))
        (λ s. pairs.1.kept.same _ (outside_part c row row (columns - row) d (omega arith) (omega arith) is-d i j hij (omega arith)
        (left_out row columns i j s)))

    transformed_y : (j : ℕ) → row ≤ j → j < columns → entry N y' j ≡ (backward_transform N selected columns row (step_of x swap m) (work_of N c l u y v)).y j
    unfolding backward_transform
    transformed_y j a b =
        pick (leb row j && ltb j columns) (λ s. row_y j a b) (λ s. absurd (omega (arith, out_of_range row columns j s a)))

    v' : List Value
    v' = set (set v selected x) row z

    transformed_v : (j : ℕ) → j < n → entry N v' j ≡ (backward_transform N selected columns row (step_of x swap m) (work_of N c l u y v)).v j
    unfolding backward_transform v'
    transformed_v j h =
        pick (eqb j selected)
        (λ s. let e = eqb→eq j selected s in
        get_or-set_other (set v selected x) row j z absent (λ f. omega arith) ∙ ap (entry N (set v selected x)) e ∙ get_or-set_same v selected x absent (omega arith))
        (λ s. pick (eqb j row)
        (λ t. ap (entry N (set (set v selected x) row z)) (eqb→eq j row t) ∙ get_or-set_same (set v selected x) row z absent (rw length-set (omega arith)) ∙ cleared)
        (λ t. get_or-set_other (set v selected x) row j z absent (neqb→ne j row t) ∙ get_or-set_other v selected j x absent (neqb→ne j selected s)))

    pub backward_transformed : Performed N c n row columns n (backward_transform N selected columns row (step_of x swap m)) l u y v l' u' y' (set (set v selected x) row z)
    unfolding backward_transform v'
    backward_transformed = record {
      agree = record { L = l_transformed N c n selected row hc hs (omega arith) ls; U = transformed_u; y = transformed_y; v = transformed_v };
      frame = record {
        l_kept = l_transformed_kept N c n selected row hc hs (omega arith) ls;
        u_kept = kept_more N (part_free c row row (columns - row) d (omega arith) (omega arith) is-d n (omega arith)) pairs.1.kept;
        y_kept = kept_more N (λ q w. omega arith) pairs.0.kept;
        z_kept = kept_all N;
        w_kept = kept_then N (kept_set N v selected x hs) (kept_set N (set v selected x) row z (omega arith));
      };
    }

  -- ---- the guard, on absolute values that were computed

  module _ (E T : Value) (c row selected columns : ℕ) (l u y v : List Value) {a b : Value} (is-a : a ≡ abs (entry N v selected)) (is_b : b ≡ abs (entry N v row)) where
    guard : {r : Bool} → le b (mul E a) ≡ r → backward_skips N E (entry N v selected) (entry N v row) ≡ r
    unfolding backward_skips
    guard g = (λ t. le (sym is_b t) (mul E (sym is-a t))) ∙ g

    pub backward_skips_lem : le b (mul E a) ≡ true → clear_dense N row (work_of N c l u y v) ≡ backward_row N E T selected columns row (work_of N c l u y v)
    unfolding backward_row
    backward_skips_lem g = rw (guard g)

    pub backward_acts : {p : Step Value} → le b (mul E a) ≡ false → p ≡ pair_step N T (entry N v selected) (entry N v row)
        → backward_transform N selected columns row p (clear_dense N row (work_of N c l u y v)) ≡ backward_row N E T selected columns row (work_of N c l u y v)
    unfolding backward_row
    backward_acts g e = rw (guard g) (λ t. backward_transform N selected columns row (e t) (clear_dense N row (work_of N c l u y v)))

    pub backward_skips_counted : le b (mul E a) ≡ true → 0 ≡ backward_row_count N E selected row (work_of N c l u y v)
    unfolding backward_row_count
    backward_skips_counted g = rw (guard g)

    pub backward_acts_counted : le b (mul E a) ≡ false → 1 ≡ backward_row_count N E selected row (work_of N c l u y v)
    unfolding backward_row_count
    backward_acts_counted g = rw (guard g)
