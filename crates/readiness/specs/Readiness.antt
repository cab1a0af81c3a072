-- What `ready` answers.
use Rattle.std.specs.Prelude.{Bool, Result, Ok, Err}
use Rattle.managed.specs.StorageAnswers.{ReadyAnswer, answered, not_answered}
use Rattle.refusals.specs.declared.Refusal.{Refusal}
use Rattle.refusals.specs.Refusal.{refusal_of}

-- yes or no, or the refusal
abbrev pub readiness_of : Result Bool Refusal → ReadyAnswer
readiness_of (Ok b) = answered b
readiness_of (Err r) = not_answered (refusal_of r)
