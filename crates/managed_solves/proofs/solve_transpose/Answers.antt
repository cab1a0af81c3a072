-- `solve_transpose`: refused, or carried out.
use mathlib.Core.Path.{sym, ◌∙◌}
use lib.Ieee.{binary64}
use native.Mathlib.Omega.{arith}
use Rattle.std.proofs.lemmas.Result.{err_from_is_err_and}
use Rattle.numbers.specs.NumberForm.{NumberForm, ieee}
use Rattle.numbers.specs.Tolerances.{managed_epsilon, managed_tiny}
use Rattle.machine.specs.Calls as calls
use Rattle.managed.specs.Instance.{state_value, lent_to_solve}
use Rattle.managed.proofs.Outcomes.{outcome_refused}
use Rattle.managed.proofs.Tested.{transpose_tested, solve_passed}
use Rattle.managed_solves.proofs.Solved.{transpose_outcome}
use Rattle.managed_solves.proofs.solve_transpose.Goals as goal

abbrev N : NumberForm
N = ieee binary64

pub returns-in_err-test_solve : goal.returns-in_err-test_solve
returns-in_err-test_solve c counter =
    let a = c.args in
    let v = state_value a.n a.capacity counter in
    let p = err_from_is_err_and c.from_residual.result c.from_residual.ensures.1 in
    rw (p.1, p.2)
    (outcome_refused N (managed_epsilon binary64) (managed_tiny binary64) (calls.solve_transpose a.rhs.now) (lent_to_solve v a.l.now a.u.now)
    (transpose_tested N v a.l.now a.u.now a.rhs.now ∙ sym c.in_err-test_solve.ensures))

pub returns : goal.returns
returns c counter =
    let a = c.args in
    let v = state_value a.n a.capacity counter in
    let passed = sym c.in_ok-test_solve.ensures in
    let r = solve_passed _ _ _ _ _ _ passed in
    rw c.split_at_mut-entries.ensures.value
    (transpose_outcome N v _ _ a.u.now (omega arith) r.0.dimension (managed_epsilon binary64) (managed_tiny binary64) a.rhs.now r.1
    (rw c.split_at_mut-entries.ensures.value at (transpose_tested N v a.l.now a.u.now a.rhs.now ∙ passed)) c.solve_transpose.ensures)
