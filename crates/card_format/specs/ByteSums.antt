-- The check of a block in bytes: request (c) of document 02. The check word is what request (b) has, a sum of words; here stands the same number as a sum of
-- bytes, each with the weight of its place in its word.
use Rattle.std.specs.Prelude.{◌≡◌, refl, List, [], ◌∷◌, ◌++◌, ℕ, ◌+◌, ◌*◌, ◌%◌, ◌^◌, ◌<◌, eqb, get_or, replicate, Float}
use Rattle.machine.specs.Counter.{CountedState}
use Rattle.card_format.specs.Blocks.{total, check_word, word_in}
use Rattle.card_format.specs.Writing.{block_count, writing}
use Rattle.card_format.specs.Reading.{checked}
use Rattle.card_format.specs.CardLaws.{Writable}

-- The sum that wraps, of the block's number and each of the 504 bytes before its check word times the power of 256 of the byte's place in its word.
unfoldable pub byte_sum : ℕ → List ℕ → ℕ
byte_sum b bytes = (b + total 504 (λ q. get_or bytes (512 * b + q) 0 * 256 ^ (q % 8))) % 2 ^ 64

pub record ByteSums : Type 0 where
  -- for every block of any bytes, the check word by words is the sum by bytes
  pub every_block : (bytes : List ℕ) (b : ℕ) → check_word b (word_in bytes b) ≡ byte_sum b bytes
  -- so a block is right, and not refused with 16, exactly where its check word is that sum
  pub tested : (bytes : List ℕ) (b : ℕ) → checked (word_in bytes) b ≡ eqb (word_in bytes b 63) (byte_sum b bytes)
  -- and every block that is written has it for its check word
  pub written : (S : CountedState Float) → Writable S → (b : ℕ) → b < block_count S.state.n → word_in (writing S) b 63 ≡ byte_sum b (writing S)

-- ---- computed: bytes that end early count as zeros

pub record ByteSumTable : Type 0 where
  -- no byte leaves the block's number
  none : byte_sum 5 [] ≡ 5
  -- the second byte of a word weighs 256, and the first of the next word 1
  second : byte_sum 0 (0 ∷ 1 ∷ []) ≡ 256
  next_word : byte_sum 0 (replicate 8 0 ++ 1 ∷ []) ≡ 1
  -- a word of ones and a word that is 1 give 2^64, of which nothing is left
  wraps : byte_sum 0 (replicate 8 255 ++ 1 ∷ []) ≡ 0
  -- byte 503 is the last, and weighs 256^7; the check word's own bytes weigh nothing
  last : byte_sum 0 (replicate 503 0 ++ 1 ∷ 7 ∷ []) ≡ 256 ^ 7
  -- block 1 begins with byte 512, and bytes before it weigh nothing
  block_1 : byte_sum 1 (replicate 512 9 ++ 3 ∷ []) ≡ 4

pub byte_sum_table : ByteSumTable
unfolding total byte_sum
byte_sum_table = record { none = refl; second = refl; next_word = refl; wraps = refl; last = refl; block_1 = refl }
