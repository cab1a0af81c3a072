-- What the functions of the managed interface hand back, in the numbers and values of documents 01 and 02.
use Rattle.std.specs.Prelude.{List, [], ℕ, Float, Option as Optional, Some, None, Result, Ok, Err}
use Rattle.std.proofs.Math.Option.{Option, none, some}
use Rattle.machine.specs.Calls as machine
use Rattle.managed.specs.Instance.{StateValue, state_value}
use Rattle.managed.specs.StorageAnswers.{AdoptionAnswer, adopted, not_adopted}
use Rattle.managed.specs.Outcome.{Report, report}
use Rattle.refusals.specs.declared.Refusal.{Refusal}
use Rattle.refusals.specs.Refusal.{refusal_of, answer_of}
use Rattle.api.specs.declared.LuMod.{LuMod}
use Rattle.api.specs.declared.RowIndex.{RowIndex}
use Rattle.api.specs.declared.ColumnIndex.{ColumnIndex}
use Rattle.api.specs.declared.Removal.{Removal}
use Rattle.api.specs.declared.CallResult.{CallResult}
use Rattle.api.specs.declared.UpdateResult.{UpdateResult}

-- the state that is handed over and handed back
abbrev pub state_of : LuMod → StateValue
state_of s = state_value s.n s.capacity s.counter

-- ---- the six calls

-- the moved row, and the moved column
abbrev pub moved_row_of : Optional RowIndex → Option ℕ
moved_row_of (Some i) = some i.0
moved_row_of None = none

abbrev pub moved_column_of : Optional ColumnIndex → Option ℕ
moved_column_of (Some i) = some i.0
moved_column_of None = none

-- for remove what moved, or the refusal's number
abbrev pub remove_answer_of : Result Removal Refusal → machine.Answer
remove_answer_of (Ok m) = machine.moved (moved_row_of m.moved_row) (moved_column_of m.moved_column)
remove_answer_of (Err r) = refusal_of r

-- what an update, a remove and a solve that left b as the right-hand side report
abbrev pub update_report : UpdateResult (Unit {0}) → Report Float
update_report r = report (answer_of r.answer) [] r.steps

abbrev pub remove_report : UpdateResult Removal → Report Float
remove_report r = report (remove_answer_of r.answer) [] r.steps

abbrev pub solve_report : CallResult → List Float → Report Float
solve_report r b = report (answer_of r.answer) b 0

-- ---- adoption

-- the state that is handed back, or the refusal
abbrev pub adoption_of : Result LuMod Refusal → AdoptionAnswer
adoption_of (Ok s) = adopted (state_of s)
adoption_of (Err r) = not_adopted (refusal_of r)
