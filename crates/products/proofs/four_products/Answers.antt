-- `four_products`: the four sums, stored at once.
use mathlib.Core.Path.{refl, ◌∙◌, ap}
use Prim.Native.Nat.{◌+◌}
use native.Mathlib.Omega.{arith}
use native.Mathlib.Nat.{add-zero}
use lib.Ieee.{binary64}
use Rattle.numbers.specs.NumberForm.{NumberForm, ieee}
use Rattle.machine.specs.Products.{entry, product}
use Rattle.ranges.proofs.Parts.{part_written}
use Rattle.matrices.specs.Tables.{table_l}
use Rattle.products.proofs.Sums.{row_product, four_entries}
use Rattle.products.proofs.four_products.Goals as goal

abbrev N : NumberForm
N = ieee binary64

pub returns : goal.returns
returns c =
    let l = c.args.l in
    let i = c.args.i in
    let L = table_l l in
    let v = c.args.input.now in
    let copied = c.copy.ensures ∙ c.four_dots-sums.ensures in
    part_written N i (i + 4) 4 c.args.output.now _ refl (omega arith) (rw copied refl) (λ j h.
    ap (λ ys. entry N ys j) copied ∙ four_entries N (λ k. product N l.n L (entry N v) (i + k))
    (rw add-zero (row_product N l.n i L v c.row.ensures.entries refl))
    (row_product N l.n (i + 1) L v c.row-2.ensures.entries refl)
    (row_product N l.n (i + 2) L v c.row-3.ensures.entries refl)
    (row_product N l.n (i + 3) L v c.row-4.ensures.entries refl) j h)
