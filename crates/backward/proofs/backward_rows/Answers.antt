-- `backward_rows`: row after row, downward.
use Prim.Native.Nat.{◌-◌}
use native.Mathlib.Omega.{arith}
use lib.Ieee.{binary64}
use Rattle.numbers.specs.NumberForm.{NumberForm, ieee}
use Rattle.machine.specs.Backward.{backward_row, backward_rows}
use Rattle.machine.proofs.Backward.{backward_row_same}
use Rattle.factors.proofs.Steps.{step_none, step_then, step_as, step_below}
use Rattle.backward.proofs.Rows.{backward_rows_none, backward_rows_more, backward_count_none, backward_count_more}
use Rattle.backward.proofs.backward_rows.Goals as goal

abbrev N : NumberForm
N = ieee binary64

pub loop-row-init : goal.loop-row-init
loop-row-init c = record {
  first = omega arith;
  last = omega arith;
  performed = step_as (λ S. S) (backward_rows_none N _ _ _ _ _) step_none;
  counted = backward_count_none N _ _ _ _ _;
  few = omega arith;
}

pub loop-row-preserved : goal.loop-row-preserved
loop-row-preserved c =
    let a = c.args in
    let row = c.loop-row.row in
    let h = c.loop-row.invariant in
    let s = h.performed.same_storage in
    let e = c.backward_row-steps.ensures in record {
      first = omega arith;
      last = omega arith;
      performed =
          step_as
          (λ S. backward_row N a.numerics.epsilon a.numerics.tiny a.selected a.columns (row - 1) (backward_rows N a.numerics.epsilon a.numerics.tiny a.selected a.columns (a.selected - row) S))
          (backward_rows_more N a.numerics.epsilon a.numerics.tiny a.selected a.columns row _ (omega arith) h.last)
          (step_then h.performed (step_below s.dimension e.performed) (omega arith)
          (λ S R. backward_row_same N a.numerics.epsilon a.numerics.tiny a.factors.now.n a.columns (omega arith) a.selected (row - 1) row (omega arith) (omega arith) (omega arith)));
      counted =
          backward_count_more N a.numerics.epsilon a.numerics.tiny a.selected a.columns a.factors.now.n row _ (omega arith) (omega arith) h.last (omega arith) h.counted h.performed.performed.agree
          (rw s.stride at e.counted);
      few = omega (arith, h.few, e.few);
    }
