-- What an update of the zero-based interface does: the machine's call that it stands for is carried out.
use Rattle.std.specs.Prelude.{List, ℕ, ◌-◌}
use Rattle.numbers.specs.NumberForm.{NumberForm}
use Rattle.machine.specs.Tables.{tabulate}
use Rattle.machine.specs.Products.{entry}
use Rattle.machine.specs.Calls.{Call, push, replace_row, replace_column, remove}
use Rattle.machine.specs.Machine.{accepted}
use Rattle.storage.specs.Views.{state_at}
use Rattle.storage.specs.Updated.{Updated}
use Rattle.zero_based_tests.specs.declared.Update.{Update}
use Rattle.zero_based_tests.specs.declared.Update.TheVariants.{Push, ReplaceColumn, ReplaceRow, Remove}

-- n is the new dimension of a push
abbrev pub dimension_before : Update → ℕ → ℕ
dimension_before Push n = n - 1
dimension_before (ReplaceColumn column) n = n
dimension_before (ReplaceRow row) n = n
dimension_before (Remove row column) n = n

module _ (N : NumberForm) where
  open N use {Value}

  -- push (row and diagonal in y, column in z), replace column (z), replace row (y), remove
  unfoldable pub call_of : Update → ℕ → List Value → List Value → Call Value
  call_of Push n y z = push (tabulate (n - 1) (entry N y)) (tabulate (n - 1) (entry N z)) (entry N y (n - 1))
  call_of (ReplaceColumn column) n y z = replace_column column (tabulate n (entry N z))
  call_of (ReplaceRow row) n y z = replace_row row (tabulate n (entry N y))
  call_of (Remove row column) n y z = remove row column

module _ (N : NumberForm) (E T : N.Value) where
  open N use {Value}

  -- The factors are those that the machine's call leaves where nothing is refused. n is the larger dimension.
  abbrev pub UpdateDone : (update : Update) (c n : ℕ) (l u y z w l' u' y' z' w' : List Value) → Type 0
  UpdateDone update c n l u y z w = Updated N c n (accepted N E T (state_at N c (dimension_before update n) l u) (call_of N update n y z)).after l u y z w
