-- A row of Forward on buffers is a row of Forward on the tables that they hold.
use mathlib.Core.Path.{◌≡◌, refl, sym, ap, ◌∙◌}
use mathlib.Core.Bool.{Bool, true, false, not, ◌&&◌}
use mathlib.Core.List.{List, []}
use mathlib.Core.Logic.{◌≢◌, ◌⊎◌, inl, inr, ⊎_elim}
use Prim.Native.Nat.{ℕ, ◌+◌, ◌-◌, ◌*◌, ◌≤◌, ◌<◌}
use native.Mathlib.Omega.{arith}
use native.Mathlib.Decide.{dec_lt}
use lib.Dec.{T as So, ltb, eqb, eqb→eq}
use lib.ListN.{length, set}
use lib.Seq.{get_or-set_same, get_or-set_other}
use Rattle.numbers.specs.NumberForm.{NumberForm}
use Rattle.numbers.specs.PairStep.{Step, step_of, pair_step, first, second}
use Rattle.machine.specs.Products.{entry}
use Rattle.machine.specs.Forward.{forward_acts, forward_transform, forward_row}
use Rattle.machine.specs.Counts.{forward_row_count}
use Rattle.machine.proofs.Choice.{neqb→ne, pick, in_range_after, out_of_range_after}
use Rattle.storage.specs.Places.{u_index}
use Rattle.storage.specs.Views.{view_u}
use Rattle.storage.proofs.Kept.{kept_all, kept_set, kept_then, kept_more}
use Rattle.storage.proofs.Places.{u_index_along, u_index_injective}
use Rattle.transforms.specs.RowsTransformed.{RowsTransformed}
use Rattle.transforms.proofs.Pairs.{RangesTransformed}
use Rattle.ranges.proofs.RowParts.{part_place, outside_part, part_free}
use Rattle.buffers.specs.Performed.{work_of, Performed}
use Rattle.buffers.proofs.Buffers.{l_transformed, l_transformed_kept}

module _ (N : NumberForm) where
  open N use {Value, zero as 𝟎, mul, abs, lt, absent}

  -- ---- the pair step made and applied

  -- x and z are what the pair step left of U(row,row) and y(row)
  module _ (c n columns row last d : ℕ) (l u y : List Value) {l' u' y' : List Value} (x z : Value) (swap : Bool) (m : Value)
      (hc : n ≤ c) (hk : columns ≤ n) (hr : row < last) (hl : last < n) (hl' : last ≤ columns) (is-d : d ≡ u_index c row row) (d-fits : d < length u) (y-long : columns ≤ length y)
      (cleared : z ≡ 𝟎)
      (pairs : RangesTransformed N swap m (d + 1) (row + 1) (columns - (row + 1)) (set u d x) (set y row z) u' y')
      (ls : RowsTransformed N swap m (row * c) (last * c) n l l') where
    next : d + 1 ≡ u_index c row (row + 1)
    next = ap (λ (q : ℕ). q + 1) is-d ∙ sym (u_index_along c row row 1 (omega arith) (omega arith))

    -- outside the diagonal and the rest of the row
    u_other : (i j : ℕ) → i ≤ j → j < n → ((i ≡ row) → (j < row) ⊎ (columns ≤ j)) → view_u N c u' i j ≡ view_u N c u i j
    u_other i j hij hj out =
        pairs.0.kept.same _ (outside_part c row (row + 1) (columns - (row + 1)) (d + 1) (omega arith) (omega arith) next i j hij (omega arith)
        (λ k h e f. ⊎_elim (λ a. omega arith) (λ a. omega arith) (out e)))
        ∙ get_or-set_other u d _ x absent (λ e.
        let q = u_index_injective c i j row row hij (omega arith) (omega arith) (omega arith) (e ∙ is-d) in
        ⊎_elim (λ a. omega (arith, q.1)) (λ a. omega (arith, q.1)) (out q.0))

    y_other : (j : ℕ) → (j < row) ⊎ (columns ≤ j) → entry N y' j ≡ entry N y j
    y_other j out =
        pairs.1.kept.same j (λ w. ⊎_elim (λ a. omega arith) (λ a. omega arith) out) ∙ get_or-set_other y row j z absent (λ e. ⊎_elim (λ a. omega arith) (λ a. omega arith) out)

    pivot_u : view_u N c u' row row ≡ x
    pivot_u =
        rw (← is-d) (pairs.0.kept.same d (λ w. omega arith) ∙ get_or-set_same u d x absent d-fits)

    pivot_y : entry N y' row ≡ 𝟎
    pivot_y = pairs.1.kept.same row (λ w. omega arith) ∙ get_or-set_same y row z absent (omega arith) ∙ cleared

    module _ (j : ℕ) (h : row < j) (g : j < columns) where
      back : row + 1 + (j - (row + 1)) ≡ j
      back = omega arith

      place : d + 1 + (j - (row + 1)) ≡ u_index c row j
      place = part_place c row (row + 1) (columns - (row + 1)) (d + 1) (omega arith) (omega arith) next (j - (row + 1)) (omega arith) ∙ ap (u_index c row) back

      old_u : entry N (set u d x) (d + 1 + (j - (row + 1))) ≡ view_u N c u row j
      old_u = get_or-set_other u d _ x absent (λ e. omega arith) ∙ ap (entry N u) place

      old_y : entry N (set y row z) (row + 1 + (j - (row + 1))) ≡ entry N y j
      old_y = get_or-set_other y row _ z absent (λ e. omega arith) ∙ ap (entry N y) back

      rest_u : view_u N c u' row j ≡ first N swap (view_u N c u row j) (entry N y j)
      rest_u = ap (entry N u') (sym place) ∙ pairs.0.value (j - (row + 1)) (omega arith) ∙ (λ t. first N swap (old_u t) (old_y t))

      rest_y : entry N y' j ≡ second N swap m (view_u N c u row j) (entry N y j)
      rest_y = ap (entry N y') (sym back) ∙ pairs.1.value (j - (row + 1)) (omega arith) ∙ (λ t. second N swap m (old_u t) (old_y t))

    transformed_u : (i j : ℕ) → i ≤ j → j < n → view_u N c u' i j ≡ (forward_transform N last columns row (step_of x swap m) (work_of N c l u y [])).U i j
    unfolding forward_transform
    transformed_u i j hij hj =
        pick (eqb i row)
        (λ s. let e = eqb→eq i row s in pick (eqb j row)
        (λ t. ap (λ (a : ℕ). view_u N c u' a j) e ∙ ap (view_u N c u' row) (eqb→eq j row t) ∙ pivot_u)
        (λ t. let ne = neqb→ne j row t in pick (ltb row j && ltb j columns)
        (λ r. let f = in_range_after row columns j r in rw e (rest_u j f.0 f.1))
        (λ r. u_other i j hij hj (λ _. inr (out_of_range_after row columns j r (omega (arith, ne)))))))
        (λ s. u_other i j hij hj (λ e. absurd (neqb→ne i row s e)))

    transformed_y : (j : ℕ) → 0 ≤ j → j < columns → entry N y' j ≡ (forward_transform N last columns row (step_of x swap m) (work_of N c l u y [])).y j
    unfolding forward_transform
    transformed_y j _ hj =
        pick (eqb j row) (λ t. ap (entry N y') (eqb→eq j row t) ∙ pivot_y)
        (λ t. let ne = neqb→ne j row t in pick (ltb row j && ltb j columns)
        (λ r. let f = in_range_after row columns j r in rest_y j f.0 f.1)
        (λ r. y_other j (inl (below j hj ne r))))
      where
        below : (j : ℕ) → j < columns → j ≢ row → So (not (ltb row j && ltb j columns)) → j < row
        below j hj ne r = go (dec_lt j row)
          where
            go : Dec (j < row) → j < row
            go (yes a) = a
            go (no a) = absurd (omega (arith, out_of_range_after row columns j r (omega (arith, ne))))

    pub forward_transformed : Performed N c n 0 columns 0 (forward_transform N last columns row (step_of x swap m)) l u y [] l' u' y' []
    unfolding forward_transform
    forward_transformed = record {
      agree = record { L = l_transformed N c n row last hc (omega arith) hl ls; U = transformed_u; y = transformed_y; v = λ j h. refl };
      frame = record {
        l_kept = l_transformed_kept N c n row last hc (omega arith) hl ls;
        u_kept = kept_then N (kept_set N u d x (row, row, omega arith, omega arith, is-d))
            (kept_more N (part_free c row (row + 1) (columns - (row + 1)) (d + 1) (omega arith) (omega arith) next n (omega arith)) pairs.0.kept);
        y_kept = kept_then N (kept_set N y row z (omega arith)) (kept_more N (λ q w. omega arith) pairs.1.kept);
        z_kept = kept_all N;
        w_kept = kept_all N;
      };
    }

  -- ---- the guard, on absolute values that were computed

  module _ (E T : Value) (c row last columns d : ℕ) (l u y : List Value) {a b : Value} (is-d : d ≡ u_index c row row) (is-a : a ≡ abs (entry N u d)) (is_b : b ≡ abs (entry N y row)) where
    guard : {r : Bool} → lt (mul E a) b ≡ r → forward_acts N E (view_u N c u row row) (entry N y row) ≡ r
    unfolding forward_acts
    guard g = (λ t. lt (mul E (abs (entry N u (sym is-d t)))) (abs (entry N y row))) ∙ (λ t. lt (mul E (sym is-a t)) (sym is_b t)) ∙ g

    pub forward_acts_lem : {p : Step Value} → lt (mul E a) b ≡ true → p ≡ pair_step N T (entry N u d) (entry N y row)
        → forward_transform N last columns row p (work_of N c l u y []) ≡ forward_row N E T last columns row (work_of N c l u y [])
    unfolding forward_row
    forward_acts_lem g e =
        rw (guard g) (λ t. forward_transform N last columns row ((e ∙ (λ s. pair_step N T (entry N u (is-d s)) (entry N y row))) t) (work_of N c l u y []))

    pub forward_passes : lt (mul E a) b ≡ false → work_of N c l u y [] ≡ forward_row N E T last columns row (work_of N c l u y [])
    unfolding forward_row
    forward_passes g = rw (guard g)

    pub forward_acts_counted : lt (mul E a) b ≡ true → 1 ≡ forward_row_count N E row (work_of N c l u y [])
    unfolding forward_row_count
    forward_acts_counted g = rw (guard g)

    pub forward_passes_counted : lt (mul E a) b ≡ false → 0 ≡ forward_row_count N E row (work_of N c l u y [])
    unfolding forward_row_count
    forward_passes_counted g = rw (guard g)
