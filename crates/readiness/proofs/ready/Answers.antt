-- `ready`: the storage passed its tests, and what was found of the diagonals and the entries is what `is_ready` tests.
use mathlib.Core.Path.{◌≡◌, ap, ◌∙◌}
use mathlib.Core.Bool.{◌&&◌}
use mathlib.Core.Option.{Option}
use lib.Ieee.{binary64}
use Rattle.std.proofs.Common.{Result, Ok, Err}
use Rattle.std.specs.Result.{is_ok}
use Rattle.numbers.specs.NumberForm.{NumberForm, ieee}
use Rattle.machine.specs.Calls.{Answer, is_none}
use Rattle.machine.specs.Readiness.{finite_l, finite_u, is_ready}
use Rattle.storage.specs.Views.{view_l, view_u}
use Rattle.managed.specs.StorageAnswers.{answered, ready_under}
use Rattle.refusals.specs.declared.Refusal.{Refusal}
use Rattle.refusals.specs.Refusal.{test_of}
use Rattle.readiness.proofs.ready.Goals as goal

abbrev N : NumberForm
N = ieee binary64

-- a test is Ok where it refused nothing
ok_if_none : (test : Result (Unit {0}) Refusal) (o : Option Answer) → test_of test ≡ o → is_ok test ≡ is_none o
ok_if_none (Ok v) o e = ap is_none e
ok_if_none (Err refusal) o e = ap is_none e

pub returns-then-is_ok : goal.returns-then-is_ok
unfolding is_ready
returns-then-is_ok c =
    let tested = c.if-is_ok.ensures.value ∙ ok_if_none _ _ c.test_diagonals.ensures in
    λ t. ready_under (c.in_ok-test_storage.ensures t) (tested t && c.finite_factors.ensures t)

pub returns-else-is_ok : goal.returns-else-is_ok
unfolding is_ready
returns-else-is_ok c =
    let a = c.args in
    let tested = c.if-is_ok.ensures.value ∙ ok_if_none _ _ c.test_diagonals.ensures in
    let entries = finite_l N a.n (view_l N a.capacity a.l.now) && finite_u N a.n (view_u N a.capacity a.u.now) in
    ap answered c.if-is_ok.false ∙ λ t. ready_under (c.in_ok-test_storage.ensures t) (tested t && entries)
