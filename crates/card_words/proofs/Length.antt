-- What the length of a card is answered as, where a test or a product finds that it exceeds usize or not.
use mathlib.Core.Path.{◌≡◌, refl, ap, ◌∙◌}
use Prim.Native.Nat.{ℕ, ◌*◌, ◌^◌, ◌≤◌, ◌<◌}
use native.Mathlib.Decide.{dec_lt}
use native.Mathlib.Omega.{arith}
use borrow.Author.Tests.{le-leb, lt-leb}
use Rattle.std.proofs.Common.{Option, Some, None}
use Rattle.std.specs.Option.{SomeIff, ok_or}
use Rattle.machine.specs.Calls.{refused}
use Rattle.storage.specs.declared.SizeOverflow.{SizeOverflow}
use Rattle.card_format.specs.Writing.{block_count, card_length}
use Rattle.card_format.specs.Answers.{answered, not_answered, length_answer}
use Rattle.card_format.proofs.Cards.{dimension_bound}
use Rattle.card_words.specs.Length.{length_of}

pub length_fits : (n : ℕ) → card_length n < 2 ^ 64 → answered (card_length n) ≡ length_answer n
length_fits n h = rw (lt-leb (2 ^ 64) (card_length n) h) refl

length_overflows : (n : ℕ) → 2 ^ 64 ≤ card_length n → not_answered (refused 2) ≡ length_answer n
length_overflows n h = rw (le-leb (2 ^ 64) (card_length n) h) refl

-- from 2^31 on
pub overflows_from : (n : ℕ) → 2 ^ 31 ≤ n → not_answered (refused 2) ≡ length_answer n
overflows_from n h = length_overflows n (go (dec_lt (card_length n) (2 ^ 64)))
  where
    go : Dec (card_length n < 2 ^ 64) → 2 ^ 64 ≤ card_length n
    go (yes l) = absurd (omega (arith, dimension_bound n l))
    go (no l) = omega arith

-- the product of the blocks, where it fits
pub product_answered : (n blocks : ℕ) (e : SizeOverflow) (product : Option ℕ) → blocks ≡ block_count n → SomeIff product (blocks * 512 < 2 ^ 64) (blocks * 512)
    → length_of (ok_or product e) ≡ length_answer n
product_answered n blocks e (Some bytes) is h =
    let l : bytes ≡ card_length n = omega (arith, is, h.1) in
    ap answered l ∙ length_fits n (omega (arith, is, h.0))
product_answered n blocks e None is h = length_overflows n (go (dec_lt (card_length n) (2 ^ 64)))
  where
    go : Dec (card_length n < 2 ^ 64) → 2 ^ 64 ≤ card_length n
    go (yes l) = absurd (h (omega (arith, is)))
    go (no l) = omega arith
