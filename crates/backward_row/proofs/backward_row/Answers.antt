-- `backward_row`: dense is cleared; then the row is skipped, or the pair step is made and applied.
use mathlib.Core.Path.{refl}
use Prim.Native.Nat.{◌-◌}
use native.Mathlib.Omega.{arith}
use lib.Ieee.{binary64}
use lib.ListN.{length-set}
use Rattle.numbers.specs.NumberForm.{NumberForm, ieee}
use Rattle.machine.specs.Backward.{clear_dense, backward_transform}
use Rattle.machine.proofs.Backward.{backward_transform_same}
use Rattle.transforms.proofs.Pairs.{parts_transformed}
use Rattle.buffers.proofs.Buffers.{performed_then, performed_from}
use Rattle.factors.proofs.Steps.{same_here, u_part_fits, step_as, step_from}
use Rattle.backward_row.proofs.RowEliminated.{dense_cleared, backward_transformed, backward_skips_lem, backward_acts, backward_skips_counted, backward_acts_counted}
use Rattle.backward_row.proofs.backward_row.Goals as goal

abbrev N : NumberForm
N = ieee binary64

pub returns-then-skips : goal.returns-then-skips
returns-then-skips c =
    let a = c.args in
    let f = a.factors.now in
    let p = c.requires in record {
      performed =
          step_as (clear_dense N a.row)
          (backward_skips_lem N a.numerics.epsilon a.numerics.tiny f.stride a.row a.selected a.columns f.l.now f.u.now a.y.now a.v.now c.abs-2.ensures c.abs.ensures c.if-skips.true)
          (step_from (omega arith) (record {
            performed = dense_cleared N f.stride f.n a.columns a.row f.n _ _ _ _ (omega arith) (omega arith) (omega arith);
            same_storage = same_here refl refl refl refl;
          }));
      counted = backward_skips_counted N a.numerics.epsilon a.numerics.tiny f.stride a.row a.selected a.columns f.l.now f.u.now a.y.now a.v.now c.abs-2.ensures c.abs.ensures c.if-skips.true;
      few = omega arith;
    }

pub slice_bounds-transform_slices-end-2 : goal.slice_bounds-transform_slices-end-2
slice_bounds-transform_slices-end-2 c =
    let a = c.args in
    let f = a.factors.now in
    let d = c.u_index-diagonal in
    u_part_fits f a.row (a.columns - a.row) (omega arith) (omega arith) d.ensures.0

pub returns : goal.returns
returns c =
    let a = c.args in
    let f = a.factors.now in
    let p = c.requires in
    let d = c.u_index-diagonal in
    let s = c.elementary-transform in
    let fits = u_part_fits f a.row (a.columns - a.row) (omega arith) (omega arith) d.ensures.0 in
    let pairs =
    parts_transformed N _ _ a.row _ d.result _ (a.columns - a.row) _ _ (omega arith) (omega arith) (simp length-set (omega arith)) fits
    c.transform_slices.ensures in record {
      performed =
          step_as (λ S. backward_transform N a.selected a.columns a.row _ (clear_dense N a.row S))
          (backward_acts N a.numerics.epsilon a.numerics.tiny f.stride a.row a.selected a.columns f.l.now f.u.now a.y.now a.v.now c.abs-2.ensures c.abs.ensures c.if-skips.false s.ensures.step)
          (record {
            performed =
                performed_then N (performed_from N (omega arith) (dense_cleared N f.stride f.n a.columns a.row f.n _ _ _ _ (omega arith) (omega arith) (omega arith)))
                (backward_transformed N f.stride f.n a.columns a.row a.selected d.result _ _ _ _ _ _ _ _
                (omega arith) (omega arith) (omega arith) (omega arith) (omega arith) d.ensures.0 (omega arith) s.ensures.cleared
                pairs c.transform_rows.ensures)
                (omega arith)
                (λ S R. backward_transform_same N a.numerics.epsilon a.numerics.tiny f.n a.columns (omega arith) a.selected a.row refl (omega arith) (omega arith));
            same_storage = same_here refl refl refl refl;
          });
      counted = backward_acts_counted N a.numerics.epsilon a.numerics.tiny f.stride a.row a.selected a.columns f.l.now f.u.now a.y.now a.v.now c.abs-2.ensures c.abs.ensures c.if-skips.false;
      few = omega arith;
    }
