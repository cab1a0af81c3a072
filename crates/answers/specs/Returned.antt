-- What a managed call returns to a C host: its answer's number, the outcome, and what each out-parameter holds afterwards.
use Rattle.std.specs.Prelude.{◌≡◌, List, ℕ, Float}
use Rattle.std.specs.Float.{Format}
use Rattle.machine.specs.Calls.{Call, Answer, number_of}
use Rattle.managed.specs.Instance.{Instance}
use Rattle.managed.specs.Outcome.{report}
use Rattle.managed.specs.Demands.{ManagedOutcome}

-- A call returns the number of its answer; b is the right-hand side as it leaves it, k how many pair steps it made, and `Out` says what its answer leaves in the
-- out-parameters.
pub record Returned (F : Format) (c : Call Float) (s t : Instance Float) (b : List Float) (k : ℕ) (Out : Answer → Type 0) (number : ℕ) : Type 0 where
  pub answer : Answer
  pub outcome : ManagedOutcome F c s t (report answer b k)
  pub is_number : number ≡ number_of answer
  pub out : Out answer
