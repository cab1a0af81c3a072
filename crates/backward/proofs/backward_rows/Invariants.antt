-- `backward_rows`: row after row, downward.
use mathlib.Core.Path.{◌≡◌}
use Prim.Native.Nat.{◌-◌, ◌≤◌}
use lib.Ieee.{binary64}
use Rattle.numbers.specs.NumberForm.{NumberForm, ieee}
use Rattle.machine.specs.Backward.{backward_rows}
use Rattle.machine.specs.Counts.{backward_rows_count}
use Rattle.factors.specs.StepPerformed.{work_with, StepPerformed}
use Rattle.backward.proofs.backward_rows.Given as goal

abbrev N : NumberForm
N = ieee binary64

abbrev pub invariant-loop-row : goal.invariant-loop-row
invariant-loop-row l = record {
  first : l.first ≤ l.row;
  last : l.row ≤ l.selected;
  performed : StepPerformed l.row l.columns l.initial.factors.n (backward_rows N l.numerics.epsilon l.numerics.tiny l.selected l.columns (l.selected - l.row)) l.initial.factors l.initial.y l.initial.v l.factors l.y l.v;
  counted : l.steps ≡ backward_rows_count N l.numerics.epsilon l.numerics.tiny l.selected l.columns (l.selected - l.row) (work_with l.initial.factors l.initial.y l.initial.v);
  few : l.steps ≤ l.selected - l.row;
}
