-- Request (c): a block's check, a word at a time, is the sum a byte at a time.
use mathlib.Core.Path.{◌≡◌, sym, ap, ◌∙◌}
use mathlib.Core.List.{List}
use Prim.Native.Nat.{ℕ, ◌+◌, ◌*◌, ◌%◌, ◌^◌, ◌<◌}
use native.Mathlib.Omega.{arith}
use lib.Dec.{T, eqb, eqb→eq}
use lib.Ieee.{Float}
use lib.ListN.{get_or}
use Rattle.machine.specs.Counter.{CountedState}
use Rattle.card_format.specs.Blocks.{total, check_word, word_at, word_in}
use Rattle.card_format.specs.Reading.{checked}
use Rattle.card_format.specs.Writing.{block_count, writing}
use Rattle.card_format.specs.CardLaws.{Writable}
use Rattle.card_format.specs.ByteSums.{byte_sum, ByteSums}
use Rattle.card_format.proofs.Totals.{total_same, total_groups}
use Rattle.card_format.proofs.Tests.{card_accepted}
use Rattle.card_format.proofs.Writing.{writing_long, writing_accepted}

-- eight bytes of the sum are one word
word_sum : (bytes : List ℕ) (b k : ℕ) → total 8 (λ i. get_or bytes (512 * b + (8 * k + i)) 0 * 256 ^ ((8 * k + i) % 8)) ≡ word_in bytes b k
unfolding word_at
word_sum bytes b k =
    total_same 8 _ _
    (λ i l.
    let at : 512 * b + (8 * k + i) ≡ 512 * b + 8 * k + i = omega arith in
    let place : (8 * k + i) % 8 ≡ i = omega arith in
    rw (at, place))

check_by_bytes : (bytes : List ℕ) (b : ℕ) → check_word b (word_in bytes b) ≡ byte_sum b bytes
unfolding check_word byte_sum
check_by_bytes bytes b =
    ap (λ (s : ℕ). (b + s) % 2 ^ 64)
    (sym
    (total_groups 8 63 (λ q. get_or bytes (512 * b + q) 0 * 256 ^ (q % 8))
    ∙ total_same 63 _ (word_in bytes b) (λ k l. word_sum bytes b k)))

-- the check words of a writing
written : (S : CountedState Float) → Writable S → (b : ℕ) → b < block_count S.state.n → T (checked (word_in (writing S)) b)
written S w b l =
    let a = card_accepted (writing S) (writing_accepted S w) in
    a.1.checks b (omega (arith, writing_long S))

pub byte_sums : ByteSums
unfolding checked
byte_sums = record {
  every_block = check_by_bytes;
  tested = λ bytes b. ap (eqb (word_in bytes b 63)) (check_by_bytes bytes b);
  written = λ S w b l. eqb→eq _ _ (written S w b l) ∙ check_by_bytes (writing S) b;
}
