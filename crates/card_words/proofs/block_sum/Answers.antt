-- `block_sum`: one more word a turn.
use mathlib.Core.Path.{◌≡◌}
use native.Mathlib.Numerals.{add-one}
use native.Mathlib.Omega.{arith}
use Rattle.card_format.specs.Blocks.{total, check_word}
use Rattle.card_format.proofs.Totals.{total_wrapped}
use Rattle.card_words.proofs.block_sum.Goals as goal

pub loop-k-init : goal.loop-k-init
unfolding total
loop-k-init c = omega arith

pub loop-k-preserved : goal.loop-k-preserved
loop-k-preserved c = rw (c.loop-k.invariant, c.word_at-sum.ensures, add-one) (total_wrapped _ _ _)

pub returns : goal.returns
unfolding check_word
returns c =
    let e : c.loop-k.k ≡ 63 = omega arith in
    rw e at c.loop-k.invariant
