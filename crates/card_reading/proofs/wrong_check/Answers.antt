-- `wrong_check`: the first block whose check is wrong.
use Rattle.std.proofs.Common.{◌≡◌, ◌/◌, true, false, length, rules, tests}
use Rattle.std.proofs.lemmas.Iterator.{first_from_Range}
use Rattle.card_format.specs.Blocks.{word_in}
use Rattle.card_format.specs.Reading.{checked}
use Rattle.card_reading.proofs.Tests.{first_named}
use Rattle.card_reading.proofs.wrong_check.Goals as goal

pub returns : goal.returns
returns c =
    let word = word_in c.args.card.now in
    first_named word (length c.args.card.now / 512) c.find.result
    (first_from_Range _ _ _ c.find.result (λ b. checked word b ≡ false) (λ b. checked word b ≡ true) c.find.ensures.ran (λ b q k. search (rules, tests)) (λ b q k. search (rules, tests)))
