-- The rows of Forward one after the other, and y into U's row.
use mathlib.Core.Path.{◌≡◌, refl, sym, ap, ◌∙◌}
use mathlib.Core.Bool.{◌&&◌}
use mathlib.Core.List.{List, []}
use Prim.Native.Nat.{ℕ, suc, ◌+◌, ◌-◌, ◌≤◌, ◌<◌}
use native.Mathlib.Omega.{arith}
use lib.Dec.{leb, ltb, eqb, eqb→eq}
use lib.Ieee.Fits.{and_l, and_r}
use Rattle.numbers.specs.NumberForm.{NumberForm}
use Rattle.machine.specs.Tables.{Work}
use Rattle.machine.specs.Products.{entry}
use Rattle.machine.specs.Forward.{copy_dense_to_row, forward_row, forward_rows}
use Rattle.machine.specs.Agreement.{AgreeWithin}
use Rattle.machine.specs.Counts.{forward_row_count, forward_rows_count}
use Rattle.machine.proofs.Choice.{pick, in_range}
use Rattle.machine.proofs.Counts.{forward_row_count_same}
use Rattle.storage.specs.Places.{u_index}
use Rattle.storage.specs.Views.{view_u}
use Rattle.storage.proofs.Kept.{kept_more}
use Rattle.storage.proofs.Frames.{frame_u}
use Rattle.ranges.specs.Written.{from, Written}
use Rattle.ranges.proofs.RowParts.{part_place, outside_part, part_free, left_out}
use Rattle.ranges.proofs.Vectors.{written_at}
use Rattle.buffers.specs.Performed.{work_of, Performed}

module _ (N : NumberForm) where
  open N use {Value}

  -- ---- all rows

  module _ (E T : Value) (start last columns : ℕ) where
    pub forward_rows_none : (S : Work Value) → S ≡ forward_rows N E T start last columns (start - start) S
    unfolding forward_rows
    forward_rows_none S = let e : start - start ≡ 0 = omega arith in rw e

    pub forward_rows_more : (row : ℕ) (S : Work Value) → start ≤ row
        → forward_row N E T last columns row (forward_rows N E T start last columns (row - start) S) ≡ forward_rows N E T start last columns (row + 1 - start) S
    unfolding forward_rows
    forward_rows_more row S h =
        let e : row + 1 - start ≡ suc (row - start) = omega arith in
        let q : start + (row - start) ≡ row = omega arith in
        rw e (rw q)

    pub forward_count_none : (S : Work Value) → 0 ≡ forward_rows_count N E T start last columns (start - start) S
    unfolding forward_rows_count
    forward_count_none S = let e : start - start ≡ 0 = omega arith in rw e

    -- S is what the rows before have left of R
    pub forward_count_more : (n row : ℕ) (R : Work Value) {a b : ℕ} {S : Work Value} → columns ≤ n → start ≤ row → row < columns → a ≡ forward_rows_count N E T start last columns (row - start) R
        → AgreeWithin n 0 columns 0 S (forward_rows N E T start last columns (row - start) R) → b ≡ forward_row_count N E row S → a + b ≡ forward_rows_count N E T start last columns (row + 1 - start) R
    unfolding forward_rows_count
    forward_count_more n row R hk h hr is-a same is_b =
        let e : row + 1 - start ≡ suc (row - start) = omega arith in
        let q : start + (row - start) ≡ row = omega arith in
        let c = is_b ∙ forward_row_count_same N E T n columns 0 hk row 0 (omega arith) hr same in
        rw e (rw q (λ t. is-a t + c t))

  -- ---- y into U's row

  module _ (c n columns last : ℕ) (l u y : List Value) {u' : List Value} (hc : n ≤ c) (hk : columns ≤ n) (hl : last ≤ columns)
      (us : Written N (λ k. u_index c last (last + k)) (columns - last) (λ k. entry N y (last + k)) u u') where
    abbrev d : ℕ
    d = u_index c last last

    -- the row's places follow each other from its diagonal on
    from_diagonal : Written N (from d) (columns - last) (λ k. entry N y (last + k)) u u'
    from_diagonal = written_at N (λ k h. sym (part_place c last last (columns - last) d (omega arith) (omega arith) refl k h)) us

    copied_u : (i j : ℕ) → i ≤ j → j < n → view_u N c u' i j ≡ (copy_dense_to_row last columns (work_of N c l u y [])).U i j
    unfolding copy_dense_to_row
    copied_u i j hij hj =
        pick (eqb i last && (leb last j && ltb j columns))
        (λ s.
        let e = eqb→eq i last (and_l (eqb i last) (leb last j && ltb j columns) s) in
        let f = in_range last columns j (and_r (eqb i last) (leb last j && ltb j columns) s) in
        let back : last + (j - last) ≡ j = omega arith in
        ap (λ (a : ℕ). view_u N c u' a j) e ∙ ap (λ (b : ℕ). view_u N c u' last b) (sym back)
        ∙ us.value (j - last) (omega arith) ∙ ap (entry N y) back)
        (λ s. from_diagonal.kept.same _ (outside_part c last last (columns - last) d (omega arith) (omega arith) refl i j hij (omega arith)
        (left_out last columns i j s)))

    pub dense_copied : Performed N c n 0 columns 0 (copy_dense_to_row last columns) l u y [] l u' y []
    unfolding copy_dense_to_row
    dense_copied = record {
      agree = record { L = λ i j a b. refl; U = copied_u; y = λ j a b. refl; v = λ j a. refl };
      frame = frame_u N (kept_more N (part_free c last last (columns - last) d (omega arith) (omega arith) refl n (omega arith)) from_diagonal.kept);
    }
