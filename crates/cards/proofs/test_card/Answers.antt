-- `test_card`: each refusal where it is the first.
use mathlib.Core.Path.{sym}
use Rattle.cards.proofs.CardTests.{length_refused, check_refused, format_refused, card_accepted}
use Rattle.cards.proofs.test_card.Goals as goal

pub returns-then-no_whole_blocks : goal.returns-then-no_whole_blocks
returns-then-no_whole_blocks c = length_refused c.args.card.now (sym (c.if-no_whole_blocks.ensures {u = tt}))

pub returns-in-Some : goal.returns-in-Some
returns-in-Some c = check_refused c.args.card.now (sym (c.if-no_whole_blocks.ensures {u = tt})) _ (sym (c.in-Some.ensures {u = tt}))

pub returns-then-not-in_format : goal.returns-then-not-in_format
returns-then-not-in_format c =
    format_refused c.args.card.now (sym (c.if-no_whole_blocks.ensures {u = tt})) (sym (c.in_default.ensures {u = tt})) (sym (c.if-not-in_format.ensures {u = tt}))

pub returns : goal.returns
returns c =
    card_accepted c.args.card.now (sym (c.if-no_whole_blocks.ensures {u = tt})) (sym (c.in_default.ensures {u = tt})) (sym (c.if-not-in_format.ensures {u = tt}))
