-- `replace_column`: the column, and where it is not the last the triangle restored.
use Prim.Native.Nat.{◌+◌}
use native.Mathlib.Omega.{arith}
use lib.Ieee.{binary64}
use Rattle.numbers.specs.NumberForm.{NumberForm, ieee}
use Rattle.factors.proofs.Columns.{written_from}
use Rattle.factors.proofs.Steps.{same_storage_then}
use Rattle.update_column.proofs.ColumnReplaced.{column_outcome, last_column_outcome}
use Rattle.update_column.proofs.replace_column.Goals as goal

abbrev N : NumberForm
N = ieee binary64

pub returns-then-column-n : goal.returns-then-column-n
returns-then-column-n c =
    let a = c.args in
    let f = a.factors.now in
    let p = c.requires in
    let l = c.l.ensures in
    let product = rw (l.dimension, l.stride, l.entries) at c.l_product.ensures in
    let put = c.write_u_column.ensures in
    let s = put.same_storage in
    let e = c.restore.ensures in record {
      carried_out =
          column_outcome N a.numerics.epsilon a.numerics.tiny f.stride f.n a.column f.l.now f.u.now a.y.now
          a.z.now a.w.now _ _ (omega arith) (omega arith) product (written_from N (a.column + 1) _ (omega arith) put.u) (omega (arith, c.if-column-n.true))
          (rw (s.stride, s.dimension, put.l) at e.performed.performed, rw (s.stride, put.l) at e.counted);
      same_storage = same_storage_then s e.performed.same_storage;
    }

pub returns : goal.returns
returns c =
    let a = c.args in
    let f = a.factors.now in
    let p = c.requires in
    let l = c.l.ensures in
    let product = rw (l.dimension, l.stride, l.entries) at c.l_product.ensures in
    let put = c.write_u_column.ensures in record {
      carried_out =
          rw put.l (last_column_outcome N a.numerics.epsilon a.numerics.tiny f.stride f.n a.column f.l.now f.u.now
          a.y.now a.z.now a.w.now _ _ (omega arith) (omega arith) product (written_from N (a.column + 1) _ (omega arith) put.u) (omega arith));
      same_storage = put.same_storage;
    }
