-- What `card_length` answers, in the numbers of document 01.
use Rattle.std.specs.Prelude.{ℕ, Result, Ok, Err}
use Rattle.machine.specs.Calls.{refused}
use Rattle.storage.specs.declared.SizeOverflow.{SizeOverflow}
use Rattle.card_format.specs.Answers.{CardAnswer, answered, not_answered}

abbrev pub length_of : Result ℕ SizeOverflow → CardAnswer ℕ
length_of (Ok bytes) = answered bytes
length_of (Err e) = not_answered (refused 2)
