-- Blocks of 512 bytes: 63 words of 64 bits, little-endian, and a check word. Nothing here depends on what the words mean.
use Rattle.std.specs.Prelude.{cond, List, ℕ, zero, suc, ◌+◌, ◌*◌, ◌/◌, ◌%◌, ◌^◌, ltb, get_or}
use Rattle.machine.specs.Tables.{tabulate}

-- f(0) + … + f(k − 1)
unfoldable pub total : ℕ → (ℕ → ℕ) → ℕ
total zero f = 0
total (suc k) f = total k f + f k

-- ---- from words to bytes

-- The check word: the wrapping sum of the 63 words and the block's number from 0.
unfoldable pub check_word : ℕ → (ℕ → ℕ) → ℕ
check_word b words = (b + total 63 words) % 2 ^ 64

-- Words are numbered through all blocks, check words left out: word k of block b has the number 63 × b + k. Behind a block's 63 words stands its check word.
unfoldable pub block_word : (ℕ → ℕ) → ℕ → ℕ → ℕ
block_word words b k = cond (ltb k 63) (words (63 * b + k)) (check_word b (λ i. words (63 * b + i)))

-- Little-endian: byte i of a word, the least first
abbrev pub byte_of : ℕ → ℕ → ℕ
byte_of w i = w / 256 ^ i % 256

-- the byte at a place: byte q % 8 of a word of block q / 512
unfoldable pub block_byte : (ℕ → ℕ) → ℕ → ℕ
block_byte words q = byte_of (block_word words (q / 512) (q % 512 / 8)) (q % 8)

-- m blocks
unfoldable pub blocks : ℕ → (ℕ → ℕ) → List ℕ
blocks m words = tabulate (512 * m) (block_byte words)

-- ---- from bytes to words

-- the word whose bytes, the least first, stand from a place on
unfoldable pub word_at : List ℕ → ℕ → ℕ
word_at bytes at = total 8 (λ i. get_or bytes (at + i) 0 * 256 ^ i)

-- word k of block b
abbrev pub word_in : List ℕ → ℕ → ℕ → ℕ
word_in bytes b k = word_at bytes (512 * b + 8 * k)

-- the word numbered p through all blocks, check words left out
abbrev pub numbered : (ℕ → ℕ → ℕ) → ℕ → ℕ
numbered word p = word (p / 63) (p % 63)
