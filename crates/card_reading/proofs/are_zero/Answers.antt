-- `are_zero`: the test of a word, made of all.
use Rattle.std.proofs.Common.{rules, tests}
use Rattle.card_reading.proofs.Tests.{all_from_range}
use Rattle.card_reading.proofs.are_zero.Goals as goal

pub returns : goal.returns
returns c = all_from_range c.args.count _ c.all.ensures.ran (λ x b q k. search (rules, tests))
