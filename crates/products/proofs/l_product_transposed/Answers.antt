-- `l_product_transposed`: one row of L a turn.
use mathlib.Core.Path.{◌≡◌, ◌∙◌}
use native.Mathlib.Omega.{arith}
use lib.Ieee.{binary64}
use Rattle.numbers.specs.NumberForm.{NumberForm, ieee}
use Rattle.machine.specs.Products.{entry}
use Rattle.storage.proofs.Kept.{kept_all}
use Rattle.ranges.proofs.Parts.{front_filled, front_length, front_entry}
use Rattle.ranges.proofs.Writing.{sum_none}
use Rattle.ranges.proofs.Vectors.{written_over}
use Rattle.matrices.specs.Tables.{table_l}
use Rattle.products.proofs.Sums.{row_sums_more, row_sums_all}
use Rattle.products.proofs.l_product_transposed.Goals as goal

abbrev N : NumberForm
N = ieee binary64

pub loop-j-init : goal.loop-j-init
loop-j-init c =
    let f = front_filled N c.args.l.n c.args.output.now c.fill.new.self (omega arith) _ (c.fill.ensures.after (λ y same. same)) in
    (omega arith, record { value = λ k h. f.value k h ∙ sum_none N _; kept = kept_all N })

pub loop-j-preserved : goal.loop-j-preserved
loop-j-preserved c =
    let a = c.args in
    let lent = front_length N a.l.n a.input.now (omega arith) in
    let added = rw (front_entry N a.l.n a.input.now c.loop-j.j (omega arith) (omega arith)) at c.add_multiple.ensures in
    (omega arith, row_sums_more N a.l.n c.loop-j.j (table_l a.l) (entry N a.input.now) c.row.ensures.entries c.loop-j.invariant.1 added)

pub returns : goal.returns
returns c =
    let f = front_filled N c.args.l.n c.args.output.now c.fill.new.self (omega arith) _ (c.fill.ensures.after (λ y same. same)) in
    let e : c.loop-j.j ≡ c.args.l.n = omega (arith, front_length N c.args.l.n c.args.input.now (omega arith)) in
    row_sums_all N c.args.l.n (table_l c.args.l) (entry N c.args.input.now) (written_over N f (rw e at c.loop-j.invariant.1))
