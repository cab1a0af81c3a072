-- The calls on cards: what they refuse, in the order of request (b) of document 02, and what they leave. Below stand computed lines for the order.
use Rattle.std.specs.Prelude.{◌≡◌, refl, T as So, List, [], ◌∷◌, ◌++◌, ℕ, suc, ◌+◌, ◌^◌, ltb, length, drop, get_or, replicate, Float}
use Rattle.std.proofs.Math.Option.{Option, none, some}
use Rattle.std.specs.Float.{binary64}
use Rattle.std.specs.Float.Ieee.{fits, nan_bits}
use Rattle.numbers.specs.NumberForm.{NumberForm, ieee}
use Rattle.machine.specs.Calls.{Answer, refused, refused_at, ◌or_else◌, refuse_if}
use Rattle.machine.specs.Counter.{CountedState}
use Rattle.machine.specs.Agreement.{Agree}
use Rattle.machine.specs.Readiness.{all_below}
use Rattle.storage.specs.Places.{LPlace, UPlace, overflows}
use Rattle.storage.specs.Views.{state_at, Kept}
use Rattle.managed.specs.Instance.{StateValue, state_value}
use Rattle.managed.specs.Refusals.{dimension_test, size_tests, storage_tests}
use Rattle.card_format.specs.Blocks.{total, check_word, word_at}
use Rattle.card_format.specs.Writing.{block_count, card_length, writing}
use Rattle.card_format.specs.Reading.{checked, wrong_check, in_format, word_tests, card_tests, patterns, reading}
use Rattle.card_format.specs.Answers.{CardAnswer, answer_under}

-- the doubles' number form
abbrev pub doubles : NumberForm
doubles = ieee binary64

-- what a slice of doubles holds
abbrev pub AreDoubles : List Float → Type 0
AreDoubles xs = (q : ℕ) → So (fits binary64 (get_or xs q doubles.absent))

-- the state that a call gets by value, with the storage that it is lent
abbrev pub held : StateValue → List Float → List Float → CountedState Float
held v l u = record { state = state_at doubles v.capacity v.n l u; counter = v.counter }

-- ---- the writer

-- 15 when the buffer is shorter than the writing
abbrev pub buffer_test : ℕ → ℕ → Option Answer
buffer_test n buffer = refuse_if (ltb buffer (card_length n)) 15

-- that, or how long the writing is
abbrev pub buffer_answer : ℕ → ℕ → CardAnswer ℕ
buffer_answer n buffer = answer_under (buffer_test n buffer) (card_length n)

-- 1, 2, 3, 13, then 15: of a state and the lengths of L, of U and of the buffer
unfoldable pub write_tests : StateValue → ℕ → ℕ → ℕ → Option Answer
write_tests v l u buffer = storage_tests v.n v.capacity l u or_else buffer_test v.n buffer

-- The buffer's beginning is the writing, and nothing beyond is touched; a refused call writes nothing.
abbrev pub card_under : Option Answer → List ℕ → List ℕ → List ℕ
card_under none w old = w ++ drop (length w) old
card_under (some a) w old = old

-- The writer is handed the state v and lent l and u to be read; it leaves the buffer `old` as `new`, and answers how many bytes were written.
pub record CardWritten (v : StateValue) (l u : List Float) (old new : List ℕ) (answer : CardAnswer ℕ) : Type 0 where
  pub answered : answer ≡ answer_under (write_tests v (length l) (length u) (length old)) (card_length v.n)
  pub card : new ≡ card_under (write_tests v (length l) (length u) (length old)) (writing (held v l u)) old

-- ---- the reader

-- 2, 3, 13, then 15, 16 and 17 for the card, and when it has passed 1, its dimension held to the capacity: of a capacity, the lengths of L and of U, and the card
unfoldable pub read_tests : ℕ → ℕ → ℕ → List ℕ → Option Answer
read_tests capacity l u card = size_tests capacity l u or_else (card_tests card or_else dimension_test (reading card).state.n capacity)

-- The reader is given a capacity and lent l, u and a card; it leaves l' and u', and hands back a state.
pub record CardRead (capacity : ℕ) (l u : List Float) (card : List ℕ) (l' u' : List Float) (answer : CardAnswer StateValue) : Type 0 where
  -- with the card's dimension and counter
  pub answered : answer ≡ answer_under (read_tests capacity (length l) (length u) card) (state_value (reading card).state.n capacity (reading card).counter)
  -- a refused call writes nothing
  pub untouched : (a : Answer) → read_tests capacity (length l) (length u) card ≡ some a → (l' ≡ l) × (u' ≡ u)
  -- the active entries become the card's
  pub factors : read_tests capacity (length l) (length u) card ≡ none → Agree (state_at doubles capacity (reading card).state.n l' u') (reading card).state
  -- and everything else in L and U stands, solve work included
  pub l_kept : read_tests capacity (length l) (length u) card ≡ none → Kept doubles (LPlace capacity (reading card).state.n) l l'
  pub u_kept : read_tests capacity (length l) (length u) card ≡ none → Kept doubles (UPlace capacity (reading card).state.n) u u'

-- ---- the order of the refusals, computed

-- a state of dimension n at capacity c
abbrev at_dimension : ℕ → ℕ → StateValue
at_dimension n c = state_value n c 0

abbrev zero_bytes : ℕ → List ℕ
zero_bytes k = replicate k 0

-- a block without a right check
unchecked : List ℕ
unchecked = zero_bytes 511 ++ 1 ∷ []

-- a block 0 alone, of a dimension d below 255, with a right check; from dimension 1 on it is no card
lone_block : ℕ → List ℕ
lone_block d = d ∷ zero_bytes 7 ++ 1 ∷ zero_bytes 495 ++ (suc d) ∷ zero_bytes 7

-- the card of dimension 1 with zeros for L and U
card_of_zeros : List ℕ
card_of_zeros = (1 ∷ zero_bytes 7 ++ 2 ∷ zero_bytes 495 ++ 3 ∷ zero_bytes 7) ++ (zero_bytes 504 ++ 1 ∷ zero_bytes 7)

pub record CallOrder : Type 0 where
  write_one_before_two : write_tests (at_dimension (2 ^ 32 + 1) (2 ^ 32)) 0 0 0 ≡ some (refused 1)
  write_two_before_three : write_tests (at_dimension 0 (2 ^ 32)) 0 0 0 ≡ some (refused 2)
  write_three_before_thirteen : write_tests (at_dimension 1 2) 5 2 0 ≡ some (refused 3)
  write_thirteen_before_fifteen : write_tests (at_dimension 1 2) 6 2 0 ≡ some (refused 13)
  write_fifteen : write_tests (at_dimension 1 2) 6 3 1023 ≡ some (refused 15)
  write_accepted : write_tests (at_dimension 1 2) 6 3 1024 ≡ none
  write_nothing_accepted : write_tests (at_dimension 0 0) 0 0 512 ≡ none
  read_two_before_three : read_tests (2 ^ 32) 0 0 [] ≡ some (refused 2)
  read_three_before_thirteen : read_tests 2 5 2 [] ≡ some (refused 3)
  read_thirteen_before_fifteen : read_tests 2 6 2 [] ≡ some (refused 13)
  read_fifteen : read_tests 2 6 3 [] ≡ some (refused 15)
  read_sixteen : read_tests 2 6 3 unchecked ≡ some (refused_at 16 0)
  -- a block 0 of dimension 3 alone: 17 before 1, where both could be given
  read_seventeen_before_one : read_tests 2 6 3 (lone_block 3) ≡ some (refused 17)
  read_accepted : read_tests 2 6 3 (lone_block 0) ≡ none
  -- a card of dimension 1: at capacity 0 it gets 1
  read_one : read_tests 0 0 0 card_of_zeros ≡ some (refused 1)
  read_at_capacity : read_tests 1 2 1 card_of_zeros ≡ none

pub call_order : CallOrder
unfolding write_tests read_tests unchecked lone_block card_of_zeros dimension_test size_tests overflows all_below nan_bits total check_word word_at block_count checked wrong_check in_format word_tests card_tests patterns
call_order = record {
  write_one_before_two = refl;
  write_two_before_three = refl;
  write_three_before_thirteen = refl;
  write_thirteen_before_fifteen = refl;
  write_fifteen = refl;
  write_accepted = refl;
  write_nothing_accepted = refl;
  read_two_before_three = refl;
  read_three_before_thirteen = refl;
  read_thirteen_before_fifteen = refl;
  read_fifteen = refl;
  read_sixteen = refl;
  read_seventeen_before_one = refl;
  read_accepted = refl;
  read_one = refl;
  read_at_capacity = refl;
}
