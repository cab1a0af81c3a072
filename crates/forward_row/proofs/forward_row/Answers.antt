-- `forward_row`: where the guard fails nothing changes, and otherwise the pair step is made and applied.
use Prim.Native.Nat.{◌+◌, ◌-◌}
use native.Mathlib.Omega.{arith}
use lib.Ieee.{binary64}
use lib.ListN.{length-set}
use mathlib.Core.Path.{refl}
use Rattle.numbers.specs.NumberForm.{NumberForm, ieee}
use Rattle.machine.specs.Forward.{forward_transform}
use Rattle.transforms.proofs.Pairs.{parts_transformed}
use Rattle.factors.proofs.Steps.{same_here, u_part_fits, step_none, step_as}
use Rattle.forward_row.proofs.RowEliminated.{forward_transformed, forward_acts_lem, forward_passes, forward_acts_counted, forward_passes_counted}
use Rattle.forward_row.proofs.forward_row.Goals as goal

abbrev N : NumberForm
N = ieee binary64

pub slice_bounds-transform_slices-end : goal.slice_bounds-transform_slices-end
slice_bounds-transform_slices-end c =
    let a = c.args in
    let f = a.factors.now in
    let d = c.u_index-diagonal in
    let h = u_part_fits f a.row (a.columns - a.row) (omega arith) (omega arith) d.ensures.0 in
    simp length-set (omega arith)

pub returns-then-acts : goal.returns-then-acts
returns-then-acts c =
    let a = c.args in
    let f = a.factors.now in
    let p = c.requires in
    let d = c.u_index-diagonal in
    let s = c.elementary-transform in
    let h = u_part_fits f a.row (a.columns - a.row) (omega arith) (omega arith) d.ensures.0 in
    let pairs =
    parts_transformed N _ _ (d.result + 1) _ (a.row + 1) _ (a.columns - (a.row + 1)) _ _ (omega arith) (omega arith)
    (simp length-set (omega arith)) (simp length-set (omega arith)) c.transform_slices.ensures in record {
      performed =
          step_as (forward_transform N a.last a.columns a.row _)
          (forward_acts_lem N a.numerics.epsilon a.numerics.tiny f.stride a.row a.last a.columns d.result f.l.now f.u.now a.y.now d.ensures.0 c.abs-2.ensures c.abs.ensures c.if-acts.true s.ensures.step)
          (record {
            performed =
                forward_transformed N f.stride f.n a.columns a.row a.last d.result f.l.now f.u.now a.y.now _ _ _ _
                (omega arith) (omega arith) (omega arith) (omega arith) (omega arith) d.ensures.0 (omega arith) (omega arith) s.ensures.cleared
                pairs c.transform_rows.ensures;
            same_storage = same_here refl refl refl refl;
          });
      counted = forward_acts_counted N a.numerics.epsilon a.numerics.tiny f.stride a.row a.last a.columns d.result f.l.now f.u.now a.y.now d.ensures.0 c.abs-2.ensures c.abs.ensures c.if-acts.true;
      few = omega arith;
    }

pub returns : goal.returns
returns c =
    let a = c.args in
    let f = a.factors.now in
    let d = c.u_index-diagonal in record {
      performed =
          step_as (λ S. S)
          (forward_passes N a.numerics.epsilon a.numerics.tiny f.stride a.row a.last a.columns d.result f.l.now f.u.now a.y.now d.ensures.0 c.abs-2.ensures c.abs.ensures c.if-acts.false)
          step_none;
      counted = forward_passes_counted N a.numerics.epsilon a.numerics.tiny f.stride a.row a.last a.columns d.result f.l.now f.u.now a.y.now d.ensures.0 c.abs-2.ensures c.abs.ensures c.if-acts.false;
      few = omega arith;
    }
