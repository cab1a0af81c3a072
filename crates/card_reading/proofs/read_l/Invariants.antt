-- `read_l`: one row a turn.
use Rattle.card_reading.proofs.Rows.{layout_l, RowsRead}
use Rattle.card_reading.proofs.read_l.Given as goal

abbrev pub invariant-loop-row : goal.invariant-loop-row
invariant-loop-row l = RowsRead layout_l l.stride l.n 63 l.card l.row l.initial.l l.l
