-- `test_read`: the card that has passed has a block, and its dimension is held to the capacity.
use mathlib.Core.Path.{sym}
use native.Mathlib.Omega.{arith}
use Rattle.cards.proofs.Passed.{whole_block, dimension_refused, dimension_answered}
use Rattle.cards.proofs.test_read.Goals as goal

pub word_at-n-requires : goal.word_at-n-requires
word_at-n-requires c = omega (arith, whole_block c.args.card.now (sym (c.in_ok-test_card.ensures {u = tt})))

pub returns-then-n-capacity : goal.returns-then-n-capacity
returns-then-n-capacity c =
    let a = c.args in
    dimension_refused a.capacity a.l a.u a.card.now (sym (c.in_ok-test_sizes.ensures {u = tt})) (sym (c.in_ok-test_card.ensures {u = tt})) _ c.word_at-n.ensures c.if-n-capacity.true

pub returns : goal.returns
returns c =
    let a = c.args in
    dimension_answered a.capacity a.l a.u a.card.now (sym (c.in_ok-test_sizes.ensures {u = tt})) (sym (c.in_ok-test_card.ensures {u = tt})) _ c.word_at-n.ensures c.if-n-capacity.false
