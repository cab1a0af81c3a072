-- `card_length`: from 2^31 on it exceeds usize, and below by the product.
use mathlib.Core.Path.{◌≡◌, ap, ◌∙◌}
use Prim.Native.Nat.{◌+◌, ◌/◌}
use native.Mathlib.Omega.{arith}
use Rattle.card_format.specs.Writing.{block_count}
use Rattle.card_words.specs.Length.{length_of}
use Rattle.card_words.proofs.Length.{overflows_from, product_answered}
use Rattle.card_words.proofs.card_length.Goals as goal

pub returns-then-n : goal.returns-then-n
returns-then-n c = overflows_from c.args.n c.if-n.true

pub returns : goal.returns
unfolding block_count
returns c =
    let blocks : 1 + (c.entry_count.result + 62) / 63 ≡ block_count c.args.n = omega (arith, c.entry_count.ensures) in
    ap length_of c.ok_or.ensures.value ∙ product_answered c.args.n _ _ c.checked_mul.result blocks c.checked_mul.ensures
