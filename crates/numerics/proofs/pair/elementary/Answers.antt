-- `elementary`: each way through its tests is the law `along` of Branches, and the bound follows from the step.
use mathlib.Core.Bool.{true, false}
use lib.Ieee.{binary64}
use Rattle.numbers.specs.NumberForm.{NumberForm, ieee}
use Rattle.numbers.proofs.Bound.{stepped}
use Rattle.numbers.proofs.Branches.{along}
use Rattle.numerics.proofs.pair.elementary.Goals as goal

abbrev N : NumberForm
N = ieee binary64

pub returns-then-size_x-tiny : goal.returns-then-size_x-tiny
returns-then-size_x-tiny c =
    stepped binary64 c.args.tiny c.args.x.now c.args.y.now _ _ _
    (along N c.args.tiny c.args.x.now c.args.y.now _ _ c.abs-size_x.ensures c.abs-size_y.ensures true true c.if-size_x-size_y.true c.if-size_x-tiny.true)

pub returns-else-size_x-tiny : goal.returns-else-size_x-tiny
returns-else-size_x-tiny c =
    stepped binary64 c.args.tiny c.args.x.now c.args.y.now _ _ _
    (along N c.args.tiny c.args.x.now c.args.y.now _ _ c.abs-size_x.ensures c.abs-size_y.ensures true false c.if-size_x-size_y.true c.if-size_x-tiny.false)

pub returns-then-size_y-tiny : goal.returns-then-size_y-tiny
returns-then-size_y-tiny c =
    stepped binary64 c.args.tiny c.args.x.now c.args.y.now _ _ _
    (along N c.args.tiny c.args.x.now c.args.y.now _ _ c.abs-size_x.ensures c.abs-size_y.ensures false true c.if-size_x-size_y.false c.if-size_y-tiny.true)

pub returns-else-size_y-tiny : goal.returns-else-size_y-tiny
returns-else-size_y-tiny c =
    stepped binary64 c.args.tiny c.args.x.now c.args.y.now _ _ _
    (along N c.args.tiny c.args.x.now c.args.y.now _ _ c.abs-size_x.ensures c.abs-size_y.ensures false false c.if-size_x-size_y.false c.if-size_y-tiny.false)
