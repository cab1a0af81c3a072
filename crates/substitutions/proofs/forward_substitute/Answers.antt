-- `forward_substitute`: one row a turn, upward.
use mathlib.Core.Path.{refl}
use native.Mathlib.Omega.{arith}
use lib.Ieee.{binary64}
use Rattle.numbers.specs.NumberForm.{NumberForm, ieee}
use Rattle.matrices.specs.Tables.{table_u}
use Rattle.substitutions.proofs.Rows.{forward_none, forward_more}
use Rattle.substitutions.proofs.forward_substitute.Goals as goal

abbrev N : NumberForm
N = ieee binary64

pub loop-row-init : goal.loop-row-init
loop-row-init c = (omega arith, forward_none N _ _ _)

pub loop-row-preserved : goal.loop-row-preserved
loop-row-preserved c =
    let k = c.loop-row.invariant.1.kept.long in
    (omega arith, forward_more N c.args.u.n c.loop-row.row (table_u c.args.u) c.args.b.now c.loop-row.b (omega arith) (omega arith) c.get.ensures refl c.loop-row.invariant.1 c.dot_column-sum.ensures)
