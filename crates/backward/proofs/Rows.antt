-- U's row into y, and the rows of Backward one after the other.
use mathlib.Core.Path.{◌≡◌, refl, sym, ap, ◌∙◌}
use mathlib.Core.Bool.{◌&&◌}
use mathlib.Core.List.{List}
use Prim.Native.Nat.{ℕ, suc, ◌+◌, ◌-◌, ◌≤◌, ◌<◌}
use native.Mathlib.Omega.{arith}
use lib.Dec.{leb, ltb}
use lib.ListN.{length, take}
use borrow.Rule.Slice.PartMut.{put_mid}
use Rattle.numbers.specs.NumberForm.{NumberForm}
use Rattle.machine.specs.Tables.{Vector, Work, tabulate}
use Rattle.machine.specs.Products.{entry}
use Rattle.machine.specs.Backward.{copy_row_to_dense, backward_row, backward_rows}
use Rattle.machine.specs.Agreement.{AgreeWithin}
use Rattle.machine.specs.Counts.{backward_row_count, backward_rows_count}
use Rattle.machine.proofs.Choice.{pick, out_of_range, tabulate_at, tabulate_length}
use Rattle.machine.proofs.Counts.{backward_row_count_same}
use Rattle.storage.specs.Views.{view_u}
use Rattle.storage.proofs.Kept.{kept_more}
use Rattle.storage.proofs.Frames.{frame_y}
use Rattle.ranges.specs.Written.{from, Written}
use Rattle.ranges.proofs.Parts.{part_written, front_length, front_entry}
use Rattle.buffers.specs.Performed.{Performed}

module _ (N : NumberForm) where
  open N use {Value}

  -- ---- all rows

  module _ (E T : Value) (selected columns : ℕ) where
    pub backward_rows_none : (S : Work Value) → S ≡ backward_rows N E T selected columns (selected - selected) S
    unfolding backward_rows
    backward_rows_none S = let e : selected - selected ≡ 0 = omega arith in rw e

    pub backward_rows_more : (row : ℕ) (S : Work Value) → 0 < row → row ≤ selected
        → backward_row N E T selected columns (row - 1) (backward_rows N E T selected columns (selected - row) S) ≡ backward_rows N E T selected columns (selected - (row - 1)) S
    unfolding backward_rows
    backward_rows_more row S h g =
        let e : selected - (row - 1) ≡ suc (selected - row) = omega arith in
        let q : selected - suc (selected - row) ≡ row - 1 = omega arith in
        rw e (rw q)

    pub backward_count_none : (S : Work Value) → 0 ≡ backward_rows_count N E T selected columns (selected - selected) S
    unfolding backward_rows_count
    backward_count_none S = let e : selected - selected ≡ 0 = omega arith in rw e

    -- S is what the rows before have left of R
    pub backward_count_more : (n row : ℕ) (R : Work Value) {a b : ℕ} {S : Work Value} → columns ≤ n → 0 < row → row ≤ selected → selected < n → a ≡ backward_rows_count N E T selected columns (selected - row) R
        → AgreeWithin n row columns n S (backward_rows N E T selected columns (selected - row) R) → b ≡ backward_row_count N E selected (row - 1) S
        → a + b ≡ backward_rows_count N E T selected columns (selected - (row - 1)) R
    unfolding backward_rows_count
    backward_count_more n row R hk h g hs is-a same is_b =
        let e : selected - (row - 1) ≡ suc (selected - row) = omega arith in
        let q : selected - suc (selected - row) ≡ row - 1 = omega arith in
        let c = is_b ∙ backward_row_count_same N E T n columns hk selected (row - 1) row hs (omega arith) same in
        rw e (rw q (λ t. is-a t + c t))

  -- ---- U's row into y

  -- what `copy(&mut y[selected..columns], &row[..columns - selected])` leaves, where row holds the first m entries of f
  pub row_part : (selected columns m : ℕ) (f : Vector Value) (row y ys : List Value) → selected ≤ columns → columns ≤ length y → columns - selected ≤ m → row ≡ tabulate m f
      → ys ≡ take (columns - selected) row → Written N (from selected) (columns - selected) f y (put_mid selected (columns - selected) y ys)
  row_part selected columns m f row y ys hs hy hm is_row e =
      let count = columns - selected in
      let long : count ≤ length row = rw (is_row, tabulate_length m f) hm in
      part_written N selected columns count y ys (omega arith) hy (rw e (front_length N count row long))
      (λ j h. rw e (front_entry N count row j h long ∙ rw is_row (tabulate_at m f N.absent j (omega arith))))

  pub row_copied : (c n columns selected : ℕ) (l u y v : List Value) {y' : List Value} → n ≤ c → columns ≤ n → selected ≤ columns
      → Written N (from selected) (columns - selected) (λ k. view_u N c u selected (selected + k)) y y'
      → Performed N c n selected columns n (copy_row_to_dense selected columns) l u y v l u y' v
  unfolding copy_row_to_dense
  row_copied c n columns selected l u y v {y'} hc hk hs ys = record {
    agree = record {
      L = λ i j a b. refl;
      U = λ i j a b. refl;
      y = λ j a b. pick (leb selected j && ltb j columns)
          (λ s. let back : selected + (j - selected) ≡ j = omega arith in
          ap (entry N y') (sym back) ∙ ys.value (j - selected) (omega arith) ∙ ap (view_u N c u selected) back)
          (λ s. absurd (omega (arith, out_of_range selected columns j s a)));
      v = λ j a. refl;
    };
    frame = frame_y N (kept_more N (λ q w. omega arith) ys.kept);
  }
