-- `nans_have_one_pattern`: the tests of the blocks, made of all.
use Rattle.std.proofs.Common.{ap, ◌∙◌, Bool, not, ℕ, ◌+◌, ◌/◌, arith, rules, tests}
use Rattle.machine.proofs.Readiness.{same_below}
use Rattle.card_format.specs.Blocks.{word_in}
use Rattle.card_format.specs.Reading.{other_nan, entry_word}
use Rattle.card_reading.proofs.Tests.{all_from_range, all_grouped, block_entry}
use Rattle.card_reading.proofs.nans_have_one_pattern.Goals as goal

pub returns : goal.returns
returns c =
    let blocks = (c.args.count + 62) / 63 in
    let word = word_in c.args.card.now in
    let right : ℕ → Bool = λ w. not (other_nan w) in
    all_from_range blocks _ c.all.ensures.ran (λ x b q k. search (rules, tests))
    ∙ same_below blocks _ _ (λ b h. same_below _ _ _ (λ k l. ap right (block_entry word b k (omega arith))))
    ∙ all_grouped 63 c.args.count blocks (λ q. right (entry_word word q)) (omega arith) (omega arith)
