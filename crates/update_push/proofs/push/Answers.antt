-- `push`: the border, and then Forward.
use Prim.Native.Nat.{◌-◌}
use native.Mathlib.Omega.{arith}
use lib.Ieee.{binary64}
use Rattle.numbers.specs.NumberForm.{NumberForm, ieee}
use Rattle.factors.proofs.Columns.{written_from}
use Rattle.factors.proofs.Steps.{same_here, same_storage_then}
use Rattle.update_push.proofs.Border.{push_outcome}
use Rattle.update_push.proofs.push.Goals as goal

abbrev N : NumberForm
N = ieee binary64

pub returns : goal.returns
returns c =
    let a = c.args in
    let f = a.factors.now in
    let p = c.requires in
    let cleared = c.clear_l_column.ensures in
    let unit = c.set_unit_row.ensures in
    let put = c.write_u_column.ensures in
    let ahead = c.forward.ensures in
    let r = cleared.same_storage in
    let s = same_storage_then r unit.same_storage in
    let t = same_storage_then s put.same_storage in record {
      carried_out =
          push_outcome N a.numerics.epsilon a.numerics.tiny f.stride f.n c.u_index-corner.result f.l.now f.u.now a.y.now
          a.z.now a.w.now _ _ _ _ (omega arith) (omega arith) (rw c.l.ensures.entries at c.l_product.ensures) cleared.l (rw (r.stride, r.dimension) at unit.l)
          (written_from N (f.n - 1) _ (omega arith) (rw (s.stride, unit.u, cleared.u) at put.u)) (rw t.stride at c.u_index-corner.ensures.0) (omega arith)
          (rw (t.stride, t.dimension, put.l) at ahead.performed.performed, rw (t.stride, put.l) at ahead.counted);
      same_storage = same_storage_then (same_here t.dimension t.stride t.l t.u) ahead.performed.same_storage;
    }
