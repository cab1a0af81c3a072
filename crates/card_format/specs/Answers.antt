-- What a call on cards answers: a value, or its refusal; and how long a buffer must be. Below stand computed lines.
use Rattle.std.specs.Prelude.{◌≡◌, refl, ℕ, ◌-◌, ◌^◌, leb}
use Rattle.std.proofs.Math.Option.{Option, none, some}
use Rattle.machine.specs.Calls.{Answer, refused, refuse_if}
use Rattle.card_format.specs.Writing.{block_count, card_length}

pub data CardAnswer (X : Type 0) : Type 0 where
  answered : X → CardAnswer X
  not_answered : Answer → CardAnswer X

-- the value, where nothing was refused
abbrev pub answer_under : {X : Type 0} → Option Answer → X → CardAnswer X
answer_under none x = answered x
answer_under (some a) x = not_answered a

-- The length of a card: 2 where it exceeds usize, which has 64 bits.
abbrev pub length_answer : ℕ → CardAnswer ℕ
length_answer n = answer_under (refuse_if (leb (2 ^ 64) (card_length n)) 2) (card_length n)

-- ---- computed: the longest card, and one dimension more

pub record LengthTable : Type 0 where
  nothing : length_answer 0 ≡ answered 512
  one : length_answer 1 ≡ answered 1024
  longest : length_answer 1230125796 ≡ answered 18446744068811283456
  one_more : length_answer 1230125797 ≡ not_answered (refused 2)
  greatest : length_answer (2 ^ 64 - 1) ≡ not_answered (refused 2)

pub length_table : LengthTable
unfolding block_count
length_table = record { nothing = refl; one = refl; longest = refl; one_more = refl; greatest = refl }
