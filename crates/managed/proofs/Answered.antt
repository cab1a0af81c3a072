-- The number that a call answers is that of its refusal, and 0 where it is not refused.
use mathlib.Core.Path.{◌≡◌, refl, ap}
use mathlib.Core.Option.{Option, none, some}
use native.Mathlib.Omega.{arith}
use Rattle.numbers.specs.NumberForm.{NumberForm}
use Rattle.machine.specs.Calls.{Call, Answer, number_of, refusal_number}
use Rattle.managed.specs.Instance.{Instance}
use Rattle.managed.specs.Refusals.{refusal_at}
use Rattle.managed.specs.Outcome.{Report, Outcome}
use Rattle.managed.proofs.Refused.{refused_untouched, all_numbered}
use Rattle.managed.proofs.Accepted.{accepted_number}

module _ (N : NumberForm) (E T : N.Value) {c : Call N.Value} {s t : Instance N.Value} {r : Report N.Value} (o : Outcome N E T c s t r) where
  pub answer_number : number_of r.answer ≡ refusal_number (refusal_at N s c)
  answer_number = go (refusal_at N s c) refl
    where
      go : (p : Option Answer) → refusal_at N s c ≡ p → number_of r.answer ≡ refusal_number p
      go none e = accepted_number N E T o e
      go (some a) e = ap number_of (refused_untouched N E T o a e).0

  -- a refusal's number is above 0
  pub answered_0 : number_of r.answer ≡ 0 → refusal_at N s c ≡ none
  answered_0 z = go (refusal_at N s c) refl
    where
      go : (p : Option Answer) → refusal_at N s c ≡ p → refusal_at N s c ≡ none
      go none e = e
      go (some a) e = absurd (omega (arith, all_numbered N s c a e, ap number_of (refused_untouched N E T o a e).0, z))
