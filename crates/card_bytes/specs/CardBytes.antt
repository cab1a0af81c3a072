-- Computed: the writings of small states, byte for byte. The states and lines for single words are in card_format/specs/Writing.antt.
use Rattle.std.specs.Prelude.{◌≡◌, refl, List, [], ◌∷◌, ◌++◌, ℕ, replicate}
use Rattle.std.specs.Float.{nan}
use Rattle.std.specs.Float.Ieee.{neg, to_bits, of_bits}
use Rattle.numbers.specs.NumberForm.{nearest, whole, least}
use Rattle.card_format.specs.Blocks.{total, check_word, block_word, block_byte, blocks}
use Rattle.card_format.specs.Writing.{rows, entries, block_count, header, words, card, writing, empty, single, two}

abbrev zeros : ℕ → List ℕ
zeros k = replicate k 0

pub record CardBytes : Type 0 where
  -- dimension 0 is block 0 alone: dimension 0, one block, counter 0, and the check 0 + 0 + 1 + 0
  empty_bytes : writing (empty 0) ≡ zeros 8 ++ 1 ∷ (zeros 495 ++ 1 ∷ zeros 7)
  -- dimension 1 with L = 1 and U = −0, which keeps its sign, and counter 5: block 0's check is 0 + 1 + 2 + 5, and block 1's number is in its check
  one_bytes : writing (single (whole 1) (neg (whole 0)) 5)
      ≡ (1 ∷ (zeros 7 ++ 2 ∷ (zeros 7 ++ 5 ∷ (zeros 487 ++ 8 ∷ zeros 7))))
      ++ zeros 6 ++ 0xF0 ∷ 0x3F ∷ (zeros 7 ++ 0x80 ∷ (zeros 488 ++ 1 ∷ (zeros 5 ++ 0xF0 ∷ 0xBF ∷ [])))
  -- dimension 2: L row by row, then U row by row, nothing below U's diagonal
  two_bytes : writing two
      ≡ (2 ∷ (zeros 7 ++ 2 ∷ (zeros 7 ++ 3 ∷ 2 ∷ 1 ∷ (zeros 485 ++ 7 ∷ 2 ∷ 1 ∷ zeros 5))))
      ++ zeros 14 ++ 0xF0 ∷ 0x3F ∷ (zeros 7 ++ 0x40 ∷ (zeros 6 ++ 0xE0 ∷ 0xBF ∷ []))
      ++ zeros 6 ++ 0x10 ∷ 0x40 ∷ (zeros 6 ++ 0xF0 ∷ 0x3F ∷ (zeros 6 ++ 0x16 ∷ 0x40 ∷ []))
      ++ zeros 448 ++ 1 ∷ (zeros 5 ++ 0xE6 ∷ 0xFF ∷ [])
  -- a NaN's one pattern, and the least subnormal: their sum with the block's number
  nan_bytes : writing (single nan least 0)
      ≡ (1 ∷ (zeros 7 ++ 2 ∷ (zeros 495 ++ 3 ∷ zeros 7)))
      ++ zeros 6 ++ 0xF8 ∷ 0x7F ∷ 1 ∷ (zeros 495 ++ 2 ∷ (zeros 5 ++ 0xF8 ∷ 0x7F ∷ []))

pub card_bytes : CardBytes
unfolding empty single two nearest neg to_bits of_bits total check_word block_word block_byte blocks rows entries block_count header words card writing
card_bytes = record {
  empty_bytes = refl;
  one_bytes = refl;
  two_bytes = refl;
  nan_bytes = refl;
}
