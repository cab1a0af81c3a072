-- The writing of a state as bytes: request (b) of document 02. Below stand computed lines for the words of small states; crate card_bytes has such
-- writings byte for byte.
use Rattle.std.specs.Prelude.{◌≡◌, refl, true, cond, List, [], ◌∷◌, ◌++◌, ℕ, zero, suc, ◌+◌, ◌-◌, ◌*◌, ◌/◌, eqb, get_or, replicate, Float}
use Rattle.std.specs.Float.{nan, inf, binary64}
use Rattle.std.specs.Float.Ieee.{neg, to_bits, of_bits}
use Rattle.numbers.specs.NumberForm.{nearest, double, whole, least}
use Rattle.machine.specs.Tables.{Table, State, tabulate}
use Rattle.machine.specs.Counter.{capped, CountedState}
use Rattle.storage.specs.Places.{u_length}
use Rattle.card_format.specs.Blocks.{total, check_word, block_word, block_byte, blocks}

module _ {A : Type 0} where
  -- f(0) to f(k − 1), one after the other
  unfoldable pub rows : ℕ → (ℕ → List A) → List A
  rows zero f = []
  rows (suc k) f = rows k f ++ f k

  -- L row by row, and U row by row, each row from its diagonal on: the active entries alone
  abbrev pub rows_of_l : ℕ → Table A → List A
  rows_of_l n L = rows n (λ i. tabulate n (L i))

  abbrev pub rows_of_u : ℕ → Table A → List A
  rows_of_u n U = rows n (λ i. tabulate (n - i) (λ j. U i (i + j)))

  -- L row by row, then U row by row
  unfoldable pub entries : State A → List A
  entries S = rows_of_l S.n S.L ++ rows_of_u S.n S.U

-- each entry turned into another
abbrev pub mapped : {A B : Type 0} → (A → B) → State A → State B
mapped f S = record { n = S.n; L = λ i j. f (S.L i j); U = λ i j. f (S.U i j) }

abbrev pub mapped_counted : {A B : Type 0} → (A → B) → CountedState A → CountedState B
mapped_counted f S = record { state = mapped f S.state; counter = S.counter }

-- how many entries a dimension has
abbrev pub entry_count : ℕ → ℕ
entry_count n = n * n + u_length n

-- the number of blocks that a dimension needs: block 0, and the others with 63 entries each
unfoldable pub block_count : ℕ → ℕ
block_count n = 1 + (entry_count n + 62) / 63

-- how many bytes its writing has
abbrev pub card_length : ℕ → ℕ
card_length n = 512 * block_count n

-- Block 0 holds the dimension in word 0, the number of blocks with itself included in word 1, by request (i) the counter in word 2, where a larger figure
-- counts as 999,999, and zeros.
unfoldable pub header : ℕ → ℕ → List ℕ
header n counter = n ∷ block_count n ∷ capped counter ∷ replicate 60 0

-- The others hold L row by row, then U row by row.
unfoldable pub words : CountedState ℕ → List ℕ
words P = header P.state.n P.counter ++ entries P.state

-- the word numbered p through all blocks, the rest of the last block zero
abbrev pub card_word : CountedState ℕ → ℕ → ℕ
card_word P p = get_or (words P) p 0

-- the card of a state whose entries are words
unfoldable pub card : CountedState ℕ → List ℕ
card P = blocks (block_count P.state.n) (card_word P)

-- The doubles' bits; a NaN is always written as 7FF8000000000000, which are its bits by `to_bits`.
abbrev pub patterns_of : CountedState Float → CountedState ℕ
patterns_of = mapped_counted (to_bits binary64)

-- document 02's writing of a state
unfoldable pub writing : CountedState Float → List ℕ
writing S = card (patterns_of S)

-- ---- computed

-- dimension 0 with a counter
unfoldable pub empty : ℕ → CountedState Float
empty counter = record { state = record { n = 0; L = λ i j. nan; U = λ i j. nan }; counter = counter }

-- dimension 1 with that L and U
unfoldable pub single : Float → Float → ℕ → CountedState Float
single l u counter = record { state = record { n = 1; L = λ i j. l; U = λ i j. u }; counter = counter }

-- a table of two rows, of whose other entries nothing is read
abbrev square : Float → Float → Float → Float → Table Float
square a b c d i j = cond (eqb i 0) (cond (eqb j 0) a b) (cond (eqb j 0) c d)

-- L (0,1),(2,−0.5); U 4,1,5.5
unfoldable pub two : CountedState Float
two = record {
  state = record { n = 2; L = square (whole 0) (whole 1) (whole 2) (neg (double 1 2)); U = square (whole 4) (whole 1) nan (double 11 2) };
  counter = 0x1_0203;
}

-- word k of block b, and the byte at a place, of a state's writing
abbrev word : CountedState Float → ℕ → ℕ → ℕ
word S = block_word (card_word (patterns_of S))

abbrev byte : CountedState Float → ℕ → ℕ
byte S = block_byte (card_word (patterns_of S))

pub record CardTable : Type 0 where
  -- dimension 0 is block 0 alone: dimension 0, one block, counter 0, and the check 0 + 0 + 1 + 0
  empty_words : (word (empty 0) 0 0 ≡ 0) × (word (empty 0) 0 1 ≡ 1) × (word (empty 0) 0 2 ≡ 0) × (word (empty 0) 0 62 ≡ 0) × (word (empty 0) 0 63 ≡ 1)
  -- the counter stops at 999,999
  counter_word : (word (empty 999_999) 0 2 ≡ 999_999) × (word (empty 1_000_000) 0 2 ≡ 999_999)
  -- dimension 1 with L = 1 and U = −0, which keeps its sign: block 0's check is 0 + 1 + 2 + 5, and block 1's number is in its check
  one_header : (word (single (whole 1) (neg (whole 0)) 5) 0 1 ≡ 2) × (word (single (whole 1) (neg (whole 0)) 5) 0 63 ≡ 8)
  one_entries : (word (single (whole 1) (neg (whole 0)) 5) 1 0 ≡ 0x3FF0_0000_0000_0000) × (word (single (whole 1) (neg (whole 0)) 5) 1 1 ≡ 0x8000_0000_0000_0000)
  one_check : word (single (whole 1) (neg (whole 0)) 5) 1 63 ≡ 0xBFF0_0000_0000_0001
  little_endian : (byte (single (whole 1) (neg (whole 0)) 5) 518 ≡ 0xF0) × (byte (single (whole 1) (neg (whole 0)) 5) 519 ≡ 0x3F)
  -- a NaN's one pattern, an infinity's and the least subnormal's; the sum of −1 and −1 wraps
  nan_word : word (single nan least 0) 1 0 ≡ 0x7FF8_0000_0000_0000
  subnormal_word : word (single nan least 0) 1 1 ≡ 1
  infinity_word : word (single (inf true) nan 0) 1 0 ≡ 0xFFF0_0000_0000_0000
  wraps : word (single (neg (whole 1)) (neg (whole 1)) 0) 1 63 ≡ 0x7FE0_0000_0000_0001
  -- dimension 2: L row by row, then U row by row, nothing below U's diagonal
  two_L : (word two 1 0 ≡ 0) × (word two 1 1 ≡ 0x3FF0_0000_0000_0000) × (word two 1 2 ≡ 0x4000_0000_0000_0000) × (word two 1 3 ≡ 0xBFE0_0000_0000_0000)
  two_U : (word two 1 4 ≡ 0x4010_0000_0000_0000) × (word two 1 5 ≡ 0x3FF0_0000_0000_0000) × (word two 1 6 ≡ 0x4016_0000_0000_0000) × (word two 1 7 ≡ 0)
  -- the 57 entries of dimension 6 have room in one block, the 77 of dimension 7 need two, and the 126 of dimension 9 fill two
  counts : (block_count 0 ≡ 1) × (block_count 6 ≡ 2) × (block_count 7 ≡ 3) × (block_count 9 ≡ 3)

pub card_table : CardTable
unfolding empty single two nearest neg to_bits of_bits total check_word block_word block_byte rows entries block_count header words
card_table = record {
  empty_words = (refl, refl, refl, refl, refl);
  counter_word = (refl, refl);
  one_header = (refl, refl);
  one_entries = (refl, refl);
  one_check = refl;
  little_endian = (refl, refl);
  nan_word = refl;
  subnormal_word = refl;
  infinity_word = refl;
  wraps = refl;
  two_L = (refl, refl, refl, refl);
  two_U = (refl, refl, refl, refl);
  counts = (refl, refl, refl, refl);
}
