-- Which cards are refused, and the state that an accepted card stands for: request (b) of document 02, with word 2 as request (i) has it. But for 15 all is said
-- of the card's words. Below stand computed lines for the order of the refusals.
use Rattle.std.specs.Prelude.{◌≡◌, refl, Bool, not, ◌&&◌, ◌||◌, cond, List, [], ◌∷◌, ℕ, zero, suc, ◌+◌, ◌-◌, ◌*◌, ◌/◌, ◌%◌, ◌^◌, leb, eqb, length, replicate, Float}
use Rattle.std.proofs.Math.Option.{Option, none, some}
use Rattle.std.specs.Float.{binary64}
use Rattle.std.specs.Float.Ieee.{of_bits, nan_bits}
use Rattle.machine.specs.Calls.{Answer, refused, refused_at, ◌or_else◌, refuse_if}
use Rattle.machine.specs.Counter.{CountedState}
use Rattle.machine.specs.Readiness.{all_below}
use Rattle.storage.specs.Places.{l_index, u_index}
use Rattle.card_format.specs.Blocks.{total, check_word, block_word, word_at, word_in, numbered}
use Rattle.card_format.specs.Writing.{mapped_counted, entry_count, block_count}

-- ---- 15

-- the card's bytes aren't a whole positive number of blocks
abbrev pub no_whole_blocks : ℕ → Bool
no_whole_blocks bytes = eqb bytes 0 || not (eqb (bytes % 512) 0)

-- a NaN with another pattern
abbrev pub other_nan : ℕ → Bool
other_nan w = nan_bits binary64 w && not (eqb w 0x7FF8_0000_0000_0000)

-- word k of block b is `word b k`
module _ (word : ℕ → ℕ → ℕ) where
  -- ---- 16

  -- a block's check word is the sum
  unfoldable pub checked : ℕ → Bool
  checked b = eqb (word b 63) (check_word b (word b))

  -- the lowest block below m whose check is wrong
  unfoldable pub wrong_check : ℕ → Option Answer
  wrong_check zero = none
  wrong_check (suc b) = wrong_check b or_else cond (checked b) none (some (refused_at 16 b))

  -- ---- 17

  -- the entry numbered q through L and U
  abbrev pub entry_word : ℕ → ℕ
  entry_word q = numbered word (63 + q)

  -- the words from a number on, so many, are zero
  abbrev pub all_zero : ℕ → ℕ → Bool
  all_zero first count = all_below count (λ k. eqb (numbered word (first + k)) 0)

  -- word 2 is a figure of the counter, and the filling words of block 0 are zero
  abbrev pub header_right : Bool
  header_right = leb (word 0 2) 999999 && all_zero 3 60

  -- the filling words behind the entries of dimension n in m blocks are zero
  abbrev pub rest_filled : ℕ → ℕ → Bool
  rest_filled m n = all_zero (63 + entry_count n) (63 * (m - 1) - entry_count n)

  -- no NaN has another pattern
  abbrev pub nans_have_one_pattern : ℕ → Bool
  nans_have_one_pattern n = all_below (entry_count n) (λ q. not (other_nan (entry_word q)))

  -- m lent blocks are as many as word 1 says and as the dimension needs, the filling words are zero and no NaN has another pattern
  unfoldable pub in_format : ℕ → Bool
  in_format m =
      let n = word 0 0 in
      eqb m (word 0 1) && (eqb m (block_count n) && (header_right && (rest_filled m n && nans_have_one_pattern n)))

  -- 16 with the lowest block whose check is wrong; then 17
  unfoldable pub word_tests : ℕ → Option Answer
  word_tests m = wrong_check m or_else refuse_if (not (in_format m)) 17

  -- ---- the state

  -- The dimension is word 0 and the counter word 2. L row by row stands as in storage of capacity n, and so does U.
  unfoldable pub patterns : CountedState ℕ
  patterns =
      let n = word 0 0 in
      record { state = record { n = n; L = λ i j. entry_word (l_index n i j); U = λ i j. entry_word (n * n + u_index n i j) }; counter = word 0 2 }

-- 15, then 16, then 17
unfoldable pub card_tests : List ℕ → Option Answer
card_tests bytes = refuse_if (no_whole_blocks (length bytes)) 15 or_else word_tests (word_in bytes) (length bytes / 512)

-- the state that an accepted card stands for
abbrev pub reading : List ℕ → CountedState Float
reading bytes = mapped_counted (of_bits binary64) (patterns (word_in bytes))

-- ---- computed: the refusals and their order

-- numbered words, all zero but for those given
zeros_but : List (ℕ × ℕ) → ℕ → ℕ
zeros_but [] p = 0
zeros_but (w ∷ ws) p = cond (eqb p w.0) w.1 (zeros_but ws p)

-- so many blocks of such words, with right checks
tested : ℕ → List (ℕ × ℕ) → Option Answer
tested m ws = word_tests (block_word (zeros_but ws)) m

pub record RefusalOrder : Type 0 where
  -- 15, before all others
  nothing : card_tests [] ≡ some (refused 15)
  part : card_tests (replicate 513 0) ≡ some (refused 15)
  fifteen_before_sixteen : card_tests (replicate 513 1) ≡ some (refused 15)
  -- 16 with the lowest block, before 17: zeros alone are a right block 0 with a wrong word 1, and a wrong block 1, whose number isn't in its check
  second_block : word_tests (λ b k. 0) 2 ≡ some (refused_at 16 1)
  lowest_block : word_tests (λ b k. 1) 2 ≡ some (refused_at 16 0)
  -- 17: not as many blocks as word 1 says, or as the dimension needs
  said : tested 1 [] ≡ some (refused 17)
  needed : tested 2 ((1, 2) ∷ []) ≡ some (refused 17)
  -- a dimension beyond all cards
  dimension_2_31 : tested 1 ((0, 2 ^ 31) ∷ (1, 1) ∷ []) ≡ some (refused 17)
  dimension_2_32 : tested 1 ((0, 2 ^ 32) ∷ (1, 1) ∷ []) ≡ some (refused 17)
  dimension_2_63 : tested 1 ((0, 2 ^ 63) ∷ (1, 1) ∷ []) ≡ some (refused 17)
  dimension_greatest : tested 1 ((0, 2 ^ 64 - 1) ∷ (1, 1) ∷ []) ≡ some (refused 17)
  -- more than 999,999 in word 2, and a filling word of block 0, or behind the entries
  counter_beyond : tested 1 ((1, 1) ∷ (2, 1_000_000) ∷ []) ≡ some (refused 17)
  word_3_not_zero : tested 1 ((1, 1) ∷ (3, 1) ∷ []) ≡ some (refused 17)
  word_62_not_zero : tested 1 ((1, 1) ∷ (62, 1) ∷ []) ≡ some (refused 17)
  rest_not_zero : tested 2 ((0, 1) ∷ (1, 2) ∷ (65, 1) ∷ []) ≡ some (refused 17)
  last_not_zero : tested 2 ((0, 1) ∷ (1, 2) ∷ (125, 1) ∷ []) ≡ some (refused 17)
  -- a NaN with another pattern: a payload, a sign
  payload : tested 2 ((0, 1) ∷ (1, 2) ∷ (63, 0x7FF8_0000_0000_0001) ∷ []) ≡ some (refused 17)
  sign : tested 2 ((0, 1) ∷ (1, 2) ∷ (64, 0xFFF8_0000_0000_0000) ∷ []) ≡ some (refused 17)
  -- accepted: dimension 0 with an older card's 0 or with the greatest counter, and dimension 1 with the NaN, an infinity and −0
  empty_accepted : tested 1 ((1, 1) ∷ []) ≡ none
  older_counter : (patterns (block_word (zeros_but ((1, 1) ∷ [])))).counter ≡ 0
  counter_accepted : tested 1 ((1, 1) ∷ (2, 999_999) ∷ []) ≡ none
  nan_accepted : tested 2 ((0, 1) ∷ (1, 2) ∷ (63, 0x7FF8_0000_0000_0000) ∷ (64, 0xFFF0_0000_0000_0000) ∷ []) ≡ none
  minus_zero_accepted : tested 2 ((0, 1) ∷ (1, 2) ∷ (63, 0x8000_0000_0000_0000) ∷ []) ≡ none

pub refusal_order : RefusalOrder
unfolding zeros_but tested total check_word block_word word_at all_below block_count checked wrong_check in_format word_tests card_tests patterns nan_bits
refusal_order = record {
  nothing = refl;
  part = refl;
  fifteen_before_sixteen = refl;
  second_block = refl;
  lowest_block = refl;
  said = refl;
  needed = refl;
  dimension_2_31 = refl;
  dimension_2_32 = refl;
  dimension_2_63 = refl;
  dimension_greatest = refl;
  counter_beyond = refl;
  word_3_not_zero = refl;
  word_62_not_zero = refl;
  rest_not_zero = refl;
  last_not_zero = refl;
  payload = refl;
  sign = refl;
  empty_accepted = refl;
  older_counter = refl;
  counter_accepted = refl;
  nan_accepted = refl;
  minus_zero_accepted = refl;
}
