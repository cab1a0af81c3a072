-- The entries of a card stored row by row: what storage holds after some rows, and after one more, for L and for U alike.
use mathlib.Core.Path.{◌≡◌, refl, sym, ap, ◌∙◌}
use mathlib.Core.List.{List}
use Prim.Native.Nat.{ℕ, ◌+◌, ◌-◌, ◌*◌, ◌≤◌, ◌<◌}
use native.Mathlib.Nat.{add_assoc}
use native.Mathlib.Omega.{arith}
use borrow.Author.Count.{below_more}
use borrow.Rule.Slice.PartMut.{put_mid}
use lib.Ieee.{Float}
use lib.ListN.{length}
use Rattle.machine.specs.Tables.{tabulate}
use Rattle.machine.specs.Products.{entry}
use Rattle.storage.specs.Places.{u_length, l_index, u_index}
use Rattle.storage.specs.Views.{Kept}
use Rattle.storage.proofs.Kept.{kept_then, kept_more}
use Rattle.storage.proofs.Places.{row_before, l_index_injective, u_index_injective, u_index_along}
use Rattle.ranges.specs.Written.{Written}
use Rattle.ranges.proofs.Parts.{part}
use Rattle.ranges.proofs.RowParts.{part_fits}
use Rattle.ranges.proofs.Vectors.{written_as, written_at}
use Rattle.card_reading.specs.Read.{URead}
use Rattle.card_reading.proofs.Runs.{N, value_of, part_tabulated}

-- the column from which on a row is stored, where an entry stands at capacity c, and how many places there are
pub record Layout : Type 0 where
  pub first : ℕ → ℕ
  pub place : ℕ → ℕ → ℕ → ℕ
  pub size : ℕ → ℕ
  -- a row's entries stand one after the other
  pub along : (c i k : ℕ) → first i + k < c → place c i (first i + k) ≡ place c i (first i) + k
  -- no place is of two rows
  pub one_row : (c i j p q : ℕ) → first i ≤ j → j < c → first p ≤ q → q < c → place c i j ≡ place c p q → i ≡ p
  -- a row is within them
  pub within : (c i : ℕ) → i < c → place c i (first i) + (c - first i) ≤ size c

abbrev pub layout_l : Layout
layout_l = record {
  first = λ i. 0;
  place = l_index;
  size = λ c. c * c;
  along = λ c i k h. omega arith;
  one_row = λ c i j p q a h b g e. (l_index_injective c i j p q h g e).0;
  within = λ c i h. omega (arith, row_before c i c h);
}

abbrev pub layout_u : Layout
layout_u = record {
  first = λ i. i;
  place = u_index;
  size = u_length;
  along = λ c i k h. u_index_along c i i k (omega arith) h;
  one_row = λ c i j p q a h b g e. (u_index_injective c i j p q a h b g e).0;
  within = λ c i h. part_fits c i i (c - i) (u_index c i i) (omega arith) (omega arith) refl (u_length c) h (omega arith);
}

module _ (layout : Layout) (c n number : ℕ) (card : List ℕ) where
  -- row i of a buffer holds the card's words from a number on, where the entries stand as at capacity n
  abbrev pub RowHeld : List Float → ℕ → Type 0
  RowHeld xs i = (j : ℕ) → layout.first i ≤ j → j < n → entry N xs (layout.place c i j) ≡ value_of card (number + layout.place n i j)

  -- the places of the first rows at dimension n
  abbrev pub AmongRows : ℕ → ℕ → Type 0
  AmongRows rows q = (i : ℕ) × (j : ℕ) × (i < rows) × (layout.first i ≤ j) × (j < n) × (q ≡ layout.place c i j)

  -- the first rows hold them, and all else is as it was
  pub record RowsRead (rows : ℕ) (old new : List Float) : Type 0 where
    pub value : (i : ℕ) → i < rows → RowHeld new i
    pub kept : Kept N (AmongRows rows) old new

module _ {layout : Layout} {c n number : ℕ} {card : List ℕ} {row : ℕ} {old mid : List Float} (done : RowsRead layout c n number card row old mid) where
  -- one more row, at its places
  module _ {new : List Float} (fits : n ≤ c)
      (w : Written N (λ k. layout.place c row (layout.first row + k)) (n - layout.first row) (λ k. value_of card (number + layout.place n row (layout.first row + k))) mid new) where
    own_row : RowHeld layout c n number card new row
    own_row j a h =
        let e : layout.first row + (j - layout.first row) ≡ j = omega arith in
        rw e at (w.value (j - layout.first row) (omega arith))

    row_above : (i : ℕ) → i < row → RowHeld layout c n number card new i
    row_above i l j a h =
        w.kept.same (layout.place c i j)
        (λ (k, g, e). let r = layout.one_row c i j row (layout.first row + k) a (omega arith) (omega arith) (omega arith) e in omega (arith, r))
        ∙ done.value i l j a h

    row_more : RowsRead layout c n number card (row + 1) old new
    row_more = record {
      value = below_more (RowHeld layout c n number card new) row row_above own_row;
      kept = kept_then N
          (kept_more N (λ q (i, j, l, a, h, e). (i, j, omega arith, a, h, e)) done.kept)
          (kept_more N (λ q (k, l, e). (row, layout.first row + k, omega arith, omega arith, omega arith, e)) w.kept);
    }

  -- what `read_values` leaves in a part of the buffer that is a row
  pub row_read : {start stop at : ℕ} {ys : List Float} → ys ≡ tabulate (length (part N start stop mid)) (λ k. value_of card (at + k))
      → n ≤ c → row < n → layout.size c ≤ length mid
      → start ≡ layout.place c row (layout.first row) → stop ≡ start + (n - layout.first row) → at ≡ number + layout.place n row (layout.first row)
      → RowsRead layout c n number card (row + 1) old (put_mid start (stop - start) mid ys)
  row_read {start} {stop} {at} {ys} e fits below size is_start is_stop is_at =
      let room : stop ≤ length mid = omega (arith, layout.within c row (omega arith)) in
      row_more fits
      (written_at N (λ k h. sym (layout.along c row k (omega arith) ∙ ap (λ (p : ℕ). p + k) (sym is_start)))
      (written_as N _ (λ k h.
      let number_is : at + k ≡ number + layout.place n row (layout.first row + k) = omega (arith, layout.along n row k (omega arith)) in
      ap (value_of card) number_is)
      (part_tabulated start stop (n - layout.first row) is_stop room e)))

-- all rows of U, whose words stand behind those of L
pub u_read : {c n : ℕ} {card : List ℕ} {u u' : List Float} → RowsRead layout_u c n (63 + n * n) card n u u' → URead c n card u u'
u_read {c} {n} {card} h = record {
  value = λ i j a l. h.value i (omega arith) j a l ∙ ap (value_of card) (add_assoc 63 (n * n) (u_index n i j));
  kept = kept_more N (λ q (i, j, hi, a, hj, e). (i, j, a, hj, e)) h.kept;
}
