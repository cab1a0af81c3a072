-- What a managed solve came to: the outcome of its call, whatever the counter is.
use Rattle.std.specs.Prelude.{List, ℕ, Float, Result}
use Rattle.std.specs.Float.{Format}
use Rattle.machine.specs.Calls.{Call}
use Rattle.managed.specs.Instance.{state_value, lent_to_solve}
use Rattle.managed.specs.Outcome.{report}
use Rattle.managed.specs.Demands.{ManagedOutcome}
use Rattle.refusals.specs.declared.Refusal.{Refusal}
use Rattle.refusals.specs.Refusal.{answer_of}

-- L is left as l', the right-hand side as b
abbrev pub Attempted : Format → Call Float → ℕ → ℕ → Result (Unit {0}) Refusal → (l u l' b : List Float) → Type 0
Attempted F call n c test l u l' b =
    (counter : ℕ) → ManagedOutcome F call (lent_to_solve (state_value n c counter) l u) (lent_to_solve (state_value n c counter) l' u) (report (answer_of test) b 0)
