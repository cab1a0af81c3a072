-- What `storage_lengths` answers: the two lengths, or refusal 2 alone. Below stand the bench table's rows on it.
use Rattle.std.specs.Prelude.{◌≡◌, refl, cond, ℕ, Result, Ok, Err}
use Rattle.storage.specs.Places.{l_length, u_length, overflows}
use Rattle.storage.specs.declared.StorageLengths.{StorageLengths}
use Rattle.storage.specs.declared.SizeOverflow.{SizeOverflow}

pub data LengthsAnswer : Type 0 where
  lengths : ℕ → ℕ → LengthsAnswer
  refused : ℕ → LengthsAnswer

-- document 01's values where there are lengths, and its number where there are none
abbrev pub answer_of : Result StorageLengths SizeOverflow → LengthsAnswer
answer_of (Ok s) = lengths s.l s.u
answer_of (Err e) = refused 2

abbrev pub required_lengths : ℕ → LengthsAnswer
required_lengths c = cond (overflows c) (refused 2) (lengths (l_length c) (u_length c))

-- ---- the bench table's rows on lengths, as the call answers them

pub record LengthsTable : Type 0 where
  answered_0 : required_lengths 0 ≡ lengths 0 0
  answered_1 : required_lengths 1 ≡ lengths 2 1
  answered_4 : required_lengths 4 ≡ lengths 20 10
  longest_answered : required_lengths 4294967295 ≡ lengths 18446744069414584320 9223372034707292160
  one_more_refused : required_lengths 4294967296 ≡ refused 2
  -- the result's cases, each with its number and values
  lengths_as : answer_of (Ok (record { l = 20; u = 10 })) ≡ lengths 20 10
  overflow_as : (e : SizeOverflow) → answer_of (Err e) ≡ refused 2

pub lengths_table : LengthsTable
unfolding overflows
lengths_table = record {
  answered_0 = refl;
  answered_1 = refl;
  answered_4 = refl;
  longest_answered = refl;
  one_more_refused = refl;
  lengths_as = refl;
  overflow_as = λ e. refl;
}
