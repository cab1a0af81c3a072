-- What the outcome of a call that is refused comes to: with 11, or with 12.
use mathlib.Core.Path.{◌≡◌, sym}
use mathlib.Core.Bool.{Bool, true, false}
use mathlib.Core.Option.{Option}
use Rattle.machine.specs.Calls.{Answer, ◌or_else◌, refusal_number, refuse_if}
use Rattle.machine.proofs.Refusals.{none_is_some}
use Rattle.lumod_c.specs.Outcome.{Outcome}

-- ---- the chain of two refusals

abbrev chain : Bool → Bool → Option Answer
chain a b = refuse_if a 11 or_else refuse_if b 12

-- ---- outcomes

module _ (a b : Bool) {Untouched Performed : Type 0} where
  pub outcome_11 : a ≡ true → Untouched → Outcome (chain a b) Untouched Performed 11
  outcome_11 e h = record {
    number = λ t. refusal_number (chain (sym e t) b);
    refused = λ r _. h;
    accepted = λ f. absurd (none_is_some f (λ t. chain (e t) b));
  }

  pub outcome_12 : a ≡ false → b ≡ true → Untouched → Outcome (chain a b) Untouched Performed 12
  outcome_12 e f h = record {
    number = λ t. refusal_number (chain (sym e t) (sym f t));
    refused = λ r _. h;
    accepted = λ g. absurd (none_is_some g (λ t. chain (e t) (f t)));
  }
