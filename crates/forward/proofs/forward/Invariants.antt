-- `forward`: row after row, and then the copy.
use mathlib.Core.Path.{◌≡◌}
use mathlib.Core.List.{[]}
use Prim.Native.Nat.{◌-◌, ◌≤◌}
use lib.Ieee.{binary64}
use Rattle.numbers.specs.NumberForm.{NumberForm, ieee}
use Rattle.machine.specs.Forward.{forward_rows}
use Rattle.machine.specs.Counts.{forward_rows_count}
use Rattle.factors.specs.StepPerformed.{work_with, StepPerformed}
use Rattle.forward.proofs.forward.Given as goal

abbrev N : NumberForm
N = ieee binary64

abbrev pub invariant-loop-row : goal.invariant-loop-row
invariant-loop-row l = record {
  first : l.first ≤ l.row;
  last : l.row ≤ l.last;
  performed : StepPerformed 0 l.columns 0 (forward_rows N l.numerics.epsilon l.numerics.tiny l.first l.last l.columns (l.row - l.first)) l.initial.factors l.initial.y [] l.factors l.y [];
  counted : l.steps ≡ forward_rows_count N l.numerics.epsilon l.numerics.tiny l.first l.last l.columns (l.row - l.first) (work_with l.initial.factors l.initial.y []);
  few : l.steps ≤ l.row - l.first;
}
