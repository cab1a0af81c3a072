-- `replace_row`: refused, or carried out.
use mathlib.Core.Path.{refl, sym, ◌∙◌}
use lib.Ieee.{binary64}
use Rattle.std.proofs.Common.{rules}
use native.Mathlib.Omega.{arith}
use Rattle.std.proofs.lemmas.Result.{err_from_is_err_and}
use Rattle.numbers.specs.NumberForm.{NumberForm, ieee}
use Rattle.machine.specs.Machine.{accepted}
use Rattle.managed.specs.Instance.{state_value}
use Rattle.managed.proofs.Outcomes.{outcome_refused, outcome_updated}
use Rattle.managed.proofs.Tested.{row_tested}
use Rattle.managed_updates.proofs.Updates.{carried_out_named}
use Rattle.managed_updates.proofs.replace_row.Goals as goal

abbrev N : NumberForm
N = ieee binary64

pub returns-in_err-test_replacement : goal.returns-in_err-test_replacement
returns-in_err-test_replacement c counter =
    let p = err_from_is_err_and c.from_residual.result c.from_residual.ensures.1 in
    rw (p.1, p.2) (outcome_refused N _ _ _ _ (row_tested N _ _ _ ∙ sym (rw c.lengths-lent.ensures at c.in_err-test_replacement.ensures)))

pub returns : goal.returns
unfolding accepted
returns c counter =
    outcome_updated N _ _ _ (state_value c.args.n c.args.capacity counter) _ _ _ _ _ _ _ refl (row_tested N _ _ _ ∙ sym (rw c.lengths-lent.ensures at c.in_ok-test_replacement.ensures))
    (carried_out_named N (search rules) (search rules) c.replace_row-steps.ensures.carried_out) refl refl refl (omega arith) refl
