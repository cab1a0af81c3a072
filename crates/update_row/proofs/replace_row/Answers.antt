-- `replace_row`: Backward clears the row's place in L, and Forward puts the new row in.
use native.Mathlib.Omega.{arith}
use lib.Ieee.{binary64}
use Rattle.numbers.specs.NumberForm.{NumberForm, ieee}
use Rattle.matrices.proofs.Columns.{column_read}
use Rattle.factors.proofs.Steps.{same_storage_then}
use Rattle.update_row.proofs.RowReplaced.{replace_row_outcome}
use Rattle.update_row.proofs.replace_row.Goals as goal

abbrev N : NumberForm
N = ieee binary64

pub returns : goal.returns
returns c =
    let a = c.args in
    let f = a.factors.now in
    let p = c.requires in
    let cleared = c.clear_l_column.ensures in
    let back = c.backward-backward_steps.ensures in
    let unit = c.set_unit_row.ensures in
    let ahead = c.forward-forward_steps.ensures in
    let r = cleared.same_storage in
    let s = same_storage_then r back.performed.same_storage in
    let t = same_storage_then s unit.same_storage in record {
      carried_out =
          replace_row_outcome N a.numerics.epsilon a.numerics.tiny f.stride f.n a.row c.trim-selected.result f.l.now
          f.u.now a.y.now a.z.now a.w.now _ _ (omega (arith, p)) (omega (arith, p))
          (column_read N f.n a.w.now _ (omega (arith, p)) (rw (c.l.ensures.stride, c.l.ensures.entries) at c.read_column.ensures)) cleared.l c.trim-selected.ensures.0 (rw (r.stride, r.dimension, cleared.u) at back.performed.performed) (rw (s.stride, s.dimension) at unit.l)
          (rw (t.stride, t.dimension, unit.u) at ahead.performed.performed)
          (rw (r.stride, cleared.u) at back.counted) (rw (t.stride, unit.u) at ahead.counted);
      same_storage = same_storage_then t ahead.performed.same_storage;
    }
