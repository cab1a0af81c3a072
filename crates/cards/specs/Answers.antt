-- What the calls on cards and their tests answer, in the numbers and values of documents 01 and 02.
use Rattle.std.specs.Prelude.{ℕ, Result, Ok, Err}
use Rattle.std.proofs.Math.Option.{Option, none, some}
use Rattle.machine.specs.Calls.{Answer}
use Rattle.managed.specs.Instance.{StateValue}
use Rattle.api.specs.declared.LuMod.{LuMod}
use Rattle.api.specs.Answers.{state_of}
use Rattle.card_format.specs.Answers.{CardAnswer, answered, not_answered}
use Rattle.cards.specs.declared.refusal.CardRefusal.{CardRefusal}
use Rattle.cards.specs.Refusal.{refusal_of}

-- what a test says: no refusal, or which
abbrev pub test_of : Result (Unit {0}) CardRefusal → Option Answer
test_of (Ok v) = none
test_of (Err r) = some (refusal_of r)

-- a number, as how many bytes were written, or the refusal
abbrev pub number_or_refusal : Result ℕ CardRefusal → CardAnswer ℕ
number_or_refusal (Ok k) = answered k
number_or_refusal (Err r) = not_answered (refusal_of r)

-- the state that was read, or the refusal
abbrev pub read_of : Result LuMod CardRefusal → CardAnswer StateValue
read_of (Ok s) = answered (state_of s)
read_of (Err r) = not_answered (refusal_of r)
