-- `read_l`: one row a turn.
use native.Mathlib.Omega.{arith}
use Rattle.card_reading.proofs.Rows.{row_read}
use Rattle.card_reading.proofs.read_l.Goals as goal

pub loop-row-preserved : goal.loop-row-preserved
loop-row-preserved c =
    row_read c.loop-row.invariant c.read_values.ensures (omega arith) (omega arith) (omega arith) (omega arith) (omega arith) (omega arith)
