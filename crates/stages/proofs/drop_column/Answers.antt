-- `drop_column`: as in replace column, with U's last column in its place.
use mathlib.Core.Path.{refl}
use Prim.Native.Nat.{◌+◌, ◌-◌}
use native.Mathlib.Omega.{arith}
use lib.Ieee.{binary64}
use Rattle.numbers.specs.NumberForm.{NumberForm, ieee}
use Rattle.matrices.proofs.Columns.{column_read}
use Rattle.factors.proofs.Columns.{written_from}
use Rattle.factors.proofs.Steps.{same_here, same_storage_then}
use Rattle.stages.proofs.StageLaws.{column_dropped_outcome, last_column_dropped}
use Rattle.stages.proofs.drop_column.Goals as goal

abbrev N : NumberForm
N = ieee binary64

pub returns-then-column-last : goal.returns-then-column-last
returns-then-column-last c =
    let a = c.args in
    let f = a.factors.now in
    let p = c.requires in
    let put = c.write_u_column.ensures in
    let s = put.same_storage in
    let e = c.restore.ensures in
    let read = column_read N (f.n - 1 + 1) a.w.now _ (omega arith) (rw (c.u.ensures.stride, c.u.ensures.entries) at c.read_column.ensures) in
    let written = written_from N (a.column + 1) _ (omega (arith, read.kept.long)) put.u in
    let performed = rw (s.stride, s.dimension, put.l) at e.performed.performed in
    let counted = rw (s.stride, put.l) at e.counted in
    let r =
    column_dropped_outcome N a.numerics.epsilon a.numerics.tiny f.stride f.n a.column f.l.now f.u.now a.y.now
    a.w.now _ _ (omega arith) (omega arith) read written (performed, counted) in
    record { updated = r.0; counted = r.1; few = e.few; same_storage = same_storage_then s e.performed.same_storage }

pub returns : goal.returns
returns c =
    let f = c.args.factors.now in
    let r =
    last_column_dropped N c.args.numerics.epsilon c.args.numerics.tiny f.stride f.n c.args.column f.l.now f.u.now
    c.args.y.now c.args.w.now (omega arith) in
    record { updated = r.0; counted = r.1; few = omega arith; same_storage = same_here refl refl refl refl }
