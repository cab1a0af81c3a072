-- A row as a part of the storage.
use mathlib.Core.Path.{◌≡◌, refl, ap, ◌∙◌}
use mathlib.Core.List.{List}
use Prim.Native.Nat.{ℕ, ◌+◌, ◌-◌, ◌*◌, ◌≤◌, ◌<◌}
use native.Mathlib.Omega.{arith}
use lib.ListN.{length}
use Rattle.numbers.specs.NumberForm.{NumberForm}
use Rattle.machine.specs.Tables.{Vector, tabulate}
use Rattle.machine.specs.Products.{entry}
use Rattle.machine.proofs.Choice.{listed}
use Rattle.storage.specs.Places.{u_index, u_length}
use Rattle.storage.specs.Views.{view_l, view_u}
use Rattle.storage.proofs.Places.{row_before}
use Rattle.ranges.proofs.Parts.{part, part_long, part_entry}
use Rattle.ranges.proofs.RowParts.{part_place, part_fits}

module _ (N : NumberForm) where
  open N use {Value, absent}

  -- a part is told by its entries
  part_listed : (start count : ℕ) (xs : List Value) (f : Vector Value) → start + count ≤ length xs → ((k : ℕ) → k < count → entry N xs (start + k) ≡ f k)
      → part N start (start + count) xs ≡ tabulate count f
  part_listed start count xs f fits e =
      let long : length (part N start (start + count) xs) ≡ count = omega (arith, part_long N start (start + count) xs (omega arith) fits) in
      rw long at (listed (part N start (start + count) xs) f absent (λ k h. part_entry N start (start + count) xs k fits h ∙ e k (omega arith)))

  -- row of L
  pub l_row_listed : (c n row : ℕ) (l : List Value) → row < n → n ≤ c → c * c ≤ length l → part N (row * c) (row * c + n) l ≡ tabulate n (view_l N c l row)
  l_row_listed c n row l hr hc fits = part_listed (row * c) n l (view_l N c l row) (omega (arith, row_before c row c (omega arith))) (λ k h. refl)

  -- row of U from its diagonal on, which stands at d
  module _ (c n row d : ℕ) (u : List Value) (hr : row < n) (hc : n ≤ c) (fits : u_length c ≤ length u) (is-d : d ≡ u_index c row row) where
    pub u_row_fits : d + (n - row) ≤ length u
    u_row_fits = part_fits c row row (n - row) d (omega arith) (omega arith) is-d (length u) (omega arith) fits

    pub u_row_listed : part N d (d + (n - row)) u ≡ tabulate (n - row) (λ k. view_u N c u row (row + k))
    u_row_listed =
        part_listed d (n - row) u (λ k. view_u N c u row (row + k)) u_row_fits
        (λ k h. ap (entry N u) (part_place c row row (n - row) d (omega arith) (omega arith) is-d k h))
