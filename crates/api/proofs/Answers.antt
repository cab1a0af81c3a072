-- The number of what a remove answers is that of any other call's answer: 0, or its refusal's.
use mathlib.Core.Path.{◌≡◌, refl}
use Rattle.std.specs.Prelude.{Result, Ok, Err}
use Rattle.machine.specs.Calls.{number_of}
use Rattle.refusals.specs.declared.Refusal.{Refusal}
use Rattle.refusals.specs.Refusal.{answer_of}
use Rattle.api.specs.declared.Removal.{Removal}
use Rattle.api.specs.Answers.{remove_answer_of}

pub remove_number : (r : Result Removal Refusal) → number_of (remove_answer_of r) ≡ number_of (answer_of r)
remove_number (Ok m) = refl
remove_number (Err r) = refl
