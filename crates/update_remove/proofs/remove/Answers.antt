-- `remove`: the column, and then the row by Backward.
use native.Mathlib.Omega.{arith}
use lib.Ieee.{binary64}
use Rattle.numbers.specs.NumberForm.{NumberForm, ieee}
use Rattle.matrices.proofs.Columns.{column_read}
use Rattle.factors.proofs.Steps.{same_storage_then}
use Rattle.update_remove.proofs.Removed.{remove_outcome}
use Rattle.update_remove.proofs.remove.Goals as goal

abbrev N : NumberForm
N = ieee binary64

pub returns : goal.returns
returns c =
    let a = c.args in
    let f = a.factors.now in
    let p = c.requires in
    let dropped = c.drop_column-column_steps.ensures in
    let copied = c.copy_l_column.ensures in
    let back = c.backward-row_steps.ensures in
    let s = dropped.same_storage in
    let t = same_storage_then s copied.same_storage in record {
      carried_out =
          remove_outcome N a.numerics.epsilon a.numerics.tiny f.stride f.n a.row a.column f.l.now f.u.now
          a.y.now a.z.now a.w.now _ _ _ _ _ (omega arith) (omega arith) dropped.updated
          (column_read N f.n _ _ (omega arith) (rw (c.l.ensures.stride, c.l.ensures.entries, s.stride, s.dimension) at c.read_column.ensures)) (rw (s.stride, s.dimension) at copied.l) dropped.counted
          (rw (t.stride, t.dimension, copied.u, s.dimension) at back.performed.performed, rw (t.stride, copied.u, s.dimension) at back.counted);
      same_storage = same_storage_then t back.performed.same_storage;
    }
