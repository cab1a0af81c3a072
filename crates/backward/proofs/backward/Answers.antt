-- `backward`: the copy, and then the rows.
use mathlib.Core.Path.{refl, ◌∙◌}
use Prim.Native.Nat.{◌-◌}
use native.Mathlib.Omega.{arith}
use lib.Ieee.{binary64}
use Rattle.numbers.specs.NumberForm.{NumberForm, ieee}
use Rattle.machine.specs.Backward.{backward}
use Rattle.machine.specs.Counts.{backward_count}
use Rattle.machine.proofs.Choice.{within_from}
use Rattle.machine.proofs.Backward.{backward_rows_same}
use Rattle.machine.proofs.Counts.{backward_rows_count_same}
use Rattle.factors.proofs.Steps.{same_here, step_then}
use Rattle.backward.proofs.Rows.{row_part, row_copied}
use Rattle.backward.proofs.backward.Goals as goal

abbrev N : NumberForm
N = ieee binary64

pub returns : goal.returns
unfolding backward backward_count
returns c =
    let a = c.args in
    let f = a.factors.now in
    let p = c.requires in
    let u = c.u.ensures in
    let row = rw (u.dimension, u.stride, u.entries) at c.row.ensures.entries in
    let part = row_part N a.selected a.columns (f.n - a.selected) _ _ a.y.now _ (omega arith) (omega arith) (omega arith) row c.copy.ensures in
    let copied = row_copied N f.stride f.n a.columns a.selected f.l.now f.u.now a.y.now a.v.now (omega arith) (omega arith) (omega arith) part in record {
      performed =
          step_then (record { performed = copied; same_storage = same_here refl refl refl refl }) c.backward_rows.ensures.performed (omega arith)
          (λ S R h. within_from (omega arith) (backward_rows_same N a.numerics.epsilon a.numerics.tiny f.n a.columns (omega arith) a.selected (a.selected - a.first) (omega arith) (omega arith) h));
      counted = c.backward_rows.ensures.counted ∙ backward_rows_count_same N a.numerics.epsilon a.numerics.tiny f.n a.columns (omega arith) a.selected (a.selected - a.first) (omega arith) (omega arith) copied.agree;
      few = c.backward_rows.ensures.few;
    }
