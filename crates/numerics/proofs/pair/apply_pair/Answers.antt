-- `apply_pair`: each way through its two tests is a law of Branches.
use mathlib.Core.Bool.{true, false}
use lib.Ieee.{binary64, ne}
use borrow.Author.Tests.{not-true, not-false}
use Rattle.numbers.specs.NumberForm.{NumberForm, ieee}
use Rattle.numbers.proofs.Branches.{met_after, added, not_added}
use Rattle.numerics.proofs.pair.apply_pair.Goals as goal
use Rattle.numerics.proofs.pair.apply_pair.Goals.{then-transform, else-transform}

abbrev N : NumberForm
N = ieee binary64

pub returns-then-transform-2 : goal.returns-then-transform-2
unfolding ne
returns-then-transform-2 c = added N _ _ _ _ _ _ (elim c.if-transform.branch [
  | then-transform w ↦ met_after N _ true c.args.x.now c.args.y.now _ _ w.if-transform.true (cc) (cc)
  | else-transform w ↦ met_after N _ false c.args.x.now c.args.y.now _ _ w.if-transform.false w.x-is w.y-is
]) (not-true _ c.if-transform-2.true)

pub returns-else-transform-2 : goal.returns-else-transform-2
unfolding ne
returns-else-transform-2 c = not_added N _ _ _ _ _ _ (elim c.if-transform.branch [
  | then-transform w ↦ met_after N _ true c.args.x.now c.args.y.now _ _ w.if-transform.true (cc) (cc)
  | else-transform w ↦ met_after N _ false c.args.x.now c.args.y.now _ _ w.if-transform.false w.x-is w.y-is
]) (not-false _ c.if-transform-2.false)
