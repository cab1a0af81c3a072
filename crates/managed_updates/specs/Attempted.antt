-- What a managed update came to: the outcome of its call, whatever the counter is.
use Rattle.std.specs.Prelude.{cond, List, [], ℕ, ◌+◌, eqb, Float, Result, Ok, Err}
use Rattle.std.proofs.Math.Option.{Option, none, some}
use Rattle.std.specs.Float.{Format}
use Rattle.machine.specs.Calls.{Call, done, moved}
use Rattle.machine.specs.Counter.{capped}
use Rattle.managed.specs.Instance.{StateValue, state_value, instance}
use Rattle.managed.specs.Outcome.{Report, report}
use Rattle.managed.specs.Demands.{ManagedOutcome}
use Rattle.refusals.specs.declared.Refusal.{Refusal}
use Rattle.refusals.specs.Refusal.{refusal_of}
use Rattle.managed_updates.specs.declared.Made.{Made}

-- the last row or column moves, where it is not itself the one that is removed
abbrev pub moved_from : ℕ → ℕ → Option ℕ
moved_from last i = cond (eqb i last) none (some last)

-- how many pair steps it made: 0 where it was refused
abbrev pub steps_of : Result Made Refusal → ℕ
steps_of (Ok m) = m.steps
steps_of (Err r) = 0

-- what it reports
abbrev pub report_of : Result Made Refusal → Report Float
report_of (Ok m) = report done [] m.steps
report_of (Err r) = report (refusal_of r) [] 0

-- for remove what moved, the last row and column being those at the new dimension
abbrev pub remove_report_of : ℕ → ℕ → Result Made Refusal → Report Float
remove_report_of row column (Ok m) = report (moved (moved_from m.dimension row) (moved_from m.dimension column)) [] m.steps
remove_report_of row column (Err r) = report (refusal_of r) [] 0

-- the state after it: its dimension, and the counter with its pair steps; where it was refused, the state as it was
abbrev pub state_after : Result Made Refusal → ℕ → ℕ → ℕ → StateValue
state_after (Ok m) n c counter = state_value m.dimension c (capped (counter + m.steps))
state_after (Err r) n c counter = state_value n c counter

-- the call's outcome, with that report, at every counter
abbrev pub Attempted : Format → Call Float → Report Float → ℕ → ℕ → Result Made Refusal → (l u y z w l' u' y' z' w' : List Float) → Type 0
Attempted F call reported n c update l u y z w l' u' y' z' w' =
    (counter : ℕ) → ManagedOutcome F call (instance (state_value n c counter) l u y z w) (instance (state_after update n c counter) l' u' y' z' w') reported
