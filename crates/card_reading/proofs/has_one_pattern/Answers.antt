-- `has_one_pattern`: a block with no NaN, and another, whose words are tested.
use mathlib.Core.Path.{◌≡◌, sym, ap, ◌∙◌}
use mathlib.Core.Bool.{true, not, not-not}
use lib.Ieee.{binary64, nan_bits}
use Rattle.std.proofs.Common.{rules, tests}
use Rattle.machine.specs.Readiness.{all_below}
use Rattle.card_format.specs.Blocks.{word_in}
use Rattle.card_reading.proofs.Tests.{all_from_range, no_nan}
use Rattle.card_reading.proofs.has_one_pattern.Goals as goal

pub returns-then-not-has_nan : goal.returns-then-not-has_nan
returns-then-not-has_nan c =
    let word = word_in c.args.card.now c.args.block in
    let found : not c.has_nan.result ≡ true = ap not c.if-not-has_nan.true in
    let none : all_below 63 (λ k. not (nan_bits binary64 (word k))) ≡ true = sym (not-not _) ∙ ap not (sym c.has_nan.ensures) ∙ found in
    found ∙ sym (no_nan word 63 c.args.count c.requires.0 none)

pub returns-else-not-has_nan : goal.returns-else-not-has_nan
returns-else-not-has_nan c = all_from_range c.args.count _ c.all.ensures.ran (λ x b q k. search (rules, tests))
