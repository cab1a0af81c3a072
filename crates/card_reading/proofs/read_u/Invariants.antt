-- `read_u`: one row a turn.
use Prim.Native.Nat.{◌+◌, ◌*◌}
use Rattle.card_reading.proofs.Rows.{layout_u, RowsRead}
use Rattle.card_reading.proofs.read_u.Given as goal

abbrev pub invariant-loop-row : goal.invariant-loop-row
invariant-loop-row l = RowsRead layout_u l.stride l.n (63 + l.n * l.n) l.card l.row l.initial.u l.u
