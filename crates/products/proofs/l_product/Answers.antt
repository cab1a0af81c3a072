-- `l_product`: the entries that are left, one a turn.
use native.Mathlib.Omega.{arith}
use lib.Ieee.{binary64}
use Rattle.numbers.specs.NumberForm.{NumberForm, ieee}
use Rattle.matrices.specs.Tables.{table_l}
use Rattle.ranges.proofs.Writing.{apart, written_more}
use Rattle.products.proofs.Sums.{row_product}
use Rattle.products.proofs.l_product.Goals as goal

abbrev N : NumberForm
N = ieee binary64

pub loop-i-preserved : goal.loop-i-preserved
loop-i-preserved c =
    (omega arith, written_more N (apart N _) c.loop-i.invariant.1 (omega arith) (row_product N c.args.l.n c.loop-i.i (table_l c.args.l) c.args.input.now c.row.ensures.entries c.dot.ensures))
