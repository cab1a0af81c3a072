-- `forward`: row after row, and then the copy.
use mathlib.Core.Path.{◌≡◌}
use Prim.Native.Nat.{◌-◌}
use native.Mathlib.Omega.{arith}
use lib.Ieee.{binary64}
use Rattle.numbers.specs.NumberForm.{NumberForm, ieee}
use Rattle.machine.specs.Forward.{forward_row, forward_rows, forward}
use Rattle.machine.specs.Counts.{forward_count}
use Rattle.machine.proofs.Forward.{forward_row_same, copy_dense_same}
use Rattle.factors.proofs.Columns.{written_from_part}
use Rattle.factors.proofs.Steps.{step_none, step_then, step_as}
use Rattle.forward.proofs.Rows.{forward_rows_none, forward_rows_more, forward_count_none, forward_count_more, dense_copied}
use Rattle.forward.proofs.forward.Goals as goal

abbrev N : NumberForm
N = ieee binary64

pub loop-row-init : goal.loop-row-init
loop-row-init c = record {
  first = omega arith;
  last = omega arith;
  performed = step_as (λ S. S) (forward_rows_none N _ _ _ _ _ _) step_none;
  counted = forward_count_none N _ _ _ _ _ _;
  few = omega arith;
}

pub loop-row-preserved : goal.loop-row-preserved
loop-row-preserved c =
    let a = c.args in
    let h = c.loop-row.invariant in
    let e = c.forward_row-steps.ensures in record {
      first = omega arith;
      last = omega arith;
      performed =
          step_as
          (λ S. forward_row N a.numerics.epsilon a.numerics.tiny a.last a.columns c.loop-row.row (forward_rows N a.numerics.epsilon a.numerics.tiny a.first a.last a.columns (c.loop-row.row - a.first) S))
          (forward_rows_more N a.numerics.epsilon a.numerics.tiny a.first a.last a.columns c.loop-row.row _ h.first)
          (step_then h.performed e.performed (omega arith)
          (λ S R. forward_row_same N a.numerics.epsilon a.numerics.tiny a.factors.now.n a.columns 0 (omega arith) a.last c.loop-row.row 0 (omega arith) (omega arith) (omega arith)));
      counted =
          forward_count_more N a.numerics.epsilon a.numerics.tiny a.first a.last a.columns a.factors.now.n c.loop-row.row _ (omega arith) h.first (omega arith) h.counted h.performed.performed.agree
          (rw h.performed.same_storage.stride at e.counted);
      few = omega (arith, h.few, e.few);
    }

pub returns-clause-performed : goal.returns-clause-performed
unfolding forward
returns-clause-performed c =
    let a = c.args in
    let f = c.loop-row.factors in
    let h = c.loop-row.invariant in
    let put = c.write_u_row.ensures in
    let row = written_from_part N a.last a.columns c.loop-row.y (omega arith) (omega arith) put.u in
    let e : c.loop-row.row ≡ a.last = omega arith in
    step_then {lo₁ = 0} (rw e at h.performed)
    (record {
      performed = rw put.l (dense_copied N f.stride f.n a.columns a.last _ _ _ (omega arith) (omega arith) (omega arith) row);
      same_storage = put.same_storage;
    })
    (omega arith)
    (λ S R. copy_dense_same N a.numerics.epsilon a.numerics.tiny a.factors.now.n a.columns 0 (omega arith) a.last 0 (omega arith))

pub returns-clause-counted : goal.returns-clause-counted
unfolding forward_count
returns-clause-counted c =
    let e : c.loop-row.row ≡ c.args.last = omega arith in
    rw e at c.loop-row.invariant.counted
