-- What it is to put words into a list of bytes, with the check words of the blocks that they fill: for the functions that write a card, between themselves.
use Rattle.std.specs.Prelude.{◌≡◌, List, ◌⊎◌, ℕ, ◌+◌, ◌*◌, ◌/◌, ◌%◌, ◌^◌, ◌≤◌, ◌<◌, length, get_or}
use Rattle.card_format.specs.Blocks.{total, check_word, byte_of, word_in}

-- the bytes of the word w stand at a place
abbrev pub Stands : ℕ → ℕ → List ℕ → Type 0
Stands at w bytes = (i : ℕ) → i < 8 → get_or bytes (at + i) 0 ≡ byte_of w i

-- a word of 64 bits is put there, and every other byte is kept
pub record WordPut (at w : ℕ) (old new : List ℕ) : Type 0 where
  pub fits : w < 2 ^ 64
  pub long : length new ≡ length old
  pub put : Stands at w new
  pub kept : (q : ℕ) → (q < at) ⊎ (at + 8 ≤ q) → get_or new q 0 ≡ get_or old q 0

-- where the word numbered p stands, check words left out
abbrev pub place : ℕ → ℕ
place p = 512 * (p / 63) + 8 * (p % 63)

-- These words are put, one after another from the number `first` on, and the check words of the blocks from `from` to below `to`; every byte elsewhere is kept.
pub record WordsAndChecksPut (first : ℕ) (words : List ℕ) (from to : ℕ) (old new : List ℕ) : Type 0 where
  pub fits : (i : ℕ) → get_or words i 0 < 2 ^ 64
  pub long : length new ≡ length old
  pub put : (i : ℕ) → i < length words → Stands (place (first + i)) (get_or words i 0) new
  pub checked : (b : ℕ) → from ≤ b → b < to → Stands (512 * b + 504) (check_word b (word_in new b)) new
  pub kept : (q : ℕ) → ((i : ℕ) → i < length words → (q < place (first + i)) ⊎ (place (first + i) + 8 ≤ q))
      → ((b : ℕ) → from ≤ b → b < to → (q < 512 * b + 504) ⊎ (512 * b + 512 ≤ q)) → get_or new q 0 ≡ get_or old q 0

-- the words alone
abbrev pub WordsPut : ℕ → List ℕ → List ℕ → List ℕ → Type 0
WordsPut first words = WordsAndChecksPut first words 0 0

-- the words, and the check word of each block whose last word is among them
abbrev pub WordsFilled : ℕ → List ℕ → List ℕ → List ℕ → Type 0
WordsFilled first words = WordsAndChecksPut first words (first / 63) ((first + length words) / 63)

-- the running sum of block b: of its number and its first k words, which is the check word where these are all 63
abbrev pub partial_sum : List ℕ → ℕ → ℕ → ℕ
partial_sum bytes b k = (b + total k (word_in bytes b)) % 2 ^ 64

-- the running sum before the word numbered p
abbrev pub sum_before : List ℕ → ℕ → ℕ
sum_before bytes p = partial_sum bytes (p / 63) (p % 63)
