-- `perform`: each update is the machine's call.
use lib.Ieee.{binary64}
use Rattle.numbers.specs.NumberForm.{NumberForm, ieee}
use Rattle.numbers.specs.Tolerances.{zero_based_epsilon, zero_based_tiny}
use Rattle.zero_based_updates.proofs.Calls.{push_performed, column_performed, row_performed, remove_performed}
use Rattle.zero_based_updates.proofs.perform.Goals as goal

abbrev N : NumberForm
N = ieee binary64

pub returns-in-Push-clause-done : goal.returns-in-Push-clause-done
returns-in-Push-clause-done c = let b = c.zero_based-numerics.ensures in rw c.in-Push.is (push_performed N zero_based_epsilon zero_based_tiny b.0 b.1 c.push.ensures.carried_out)

pub returns-in-ReplaceColumn-clause-done : goal.returns-in-ReplaceColumn-clause-done
returns-in-ReplaceColumn-clause-done c =
    let b = c.zero_based-numerics.ensures in
    let h = rw c.in-ReplaceColumn.is at c.requires.in_range in rw c.in-ReplaceColumn.is (column_performed N zero_based_epsilon zero_based_tiny b.0 b.1 h c.replace_column.ensures.carried_out)

pub returns-in-ReplaceRow-clause-done : goal.returns-in-ReplaceRow-clause-done
returns-in-ReplaceRow-clause-done c =
    let b = c.zero_based-numerics.ensures in
    let h = rw c.in-ReplaceRow.is at c.requires.in_range in rw c.in-ReplaceRow.is (row_performed N zero_based_epsilon zero_based_tiny b.0 b.1 h c.replace_row.ensures.carried_out)

pub returns-in-Remove-clause-done : goal.returns-in-Remove-clause-done
returns-in-Remove-clause-done c = let b = c.zero_based-numerics.ensures in rw c.in-Remove.is (remove_performed N zero_based_epsilon zero_based_tiny b.0 b.1 c.remove.ensures.carried_out)
