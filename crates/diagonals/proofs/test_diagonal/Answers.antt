-- `test_diagonal`: one diagonal a turn.
use mathlib.Core.Path.{sym, ◌∙◌}
use Prim.Native.Nat.{◌<◌}
use native.Mathlib.Omega.{arith}
use lib.Ieee.{binary64}
use Rattle.numbers.specs.NumberForm.{NumberForm, ieee}
use Rattle.diagonals.proofs.Search.{zero_found, non_finite_found, sound_found, none_searched}
use Rattle.diagonals.proofs.test_diagonal.Goals as goal

abbrev N : NumberForm
N = ieee binary64

pub loop-i-init : goal.loop-i-init
loop-i-init c = (omega arith, none_searched N _)

pub returns-then-value : goal.returns-then-value
returns-then-value c =
    let below : c.loop-i.i < c.args.u.n = omega arith in zero_found N _ _ _ _ c.get-value.ensures c.loop-i.invariant.1 below c.if-value.true

pub returns-then-not-is_finite : goal.returns-then-not-is_finite
returns-then-not-is_finite c =
    let below : c.loop-i.i < c.args.u.n = omega arith in
    non_finite_found N _ _ _ _ c.get-value.ensures c.loop-i.invariant.1 below c.if-value.false (sym c.is_finite.ensures ∙ c.if-not-is_finite.true)

pub loop-i-preserved : goal.loop-i-preserved
loop-i-preserved c =
    (omega arith, sound_found N _ c.args.u.n _ _ c.get-value.ensures c.loop-i.invariant.1 c.if-value.false (sym c.is_finite.ensures ∙ c.if-not-is_finite.false))
