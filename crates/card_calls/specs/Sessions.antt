-- A session that goes on from a card gives what the unbroken session would have given: request (b) of document 02, as one claim over every list that is cut in two,
-- made of demand 3's `Trace`.
use Rattle.std.specs.Prelude.{◌≡◌, List, [], ◌∷◌, ◌++◌, ℕ, ◌+◌, ◌≤◌, length, Float}
use Rattle.std.proofs.Math.Option.{none}
use Rattle.std.specs.Float.{binary64}
use Rattle.numbers.specs.NumberForm.{NumberForm}
use Rattle.numbers.specs.Tolerances.{managed_epsilon, managed_tiny}
use Rattle.machine.specs.Calls.{Call}
use Rattle.machine.specs.Counter.{CountedState, CountedResult, figures_of, counted_run}
use Rattle.machine.specs.Agreement.{AgreeCounted}
use Rattle.managed.specs.Instance.{StateValue, view_counted}
use Rattle.managed.specs.Refusals.{size_tests}
use Rattle.managed.specs.Lists.{pushes, AllSame, Event, results, Trace}
use Rattle.card_format.specs.Answers.{CardAnswer, answered}
use Rattle.card_calls.specs.CardCalls.{doubles, held, CardRead}
use Rattle.card_calls.specs.CardDemands.{Wrote}

module _ (N : NumberForm) where
  open N use {Value}

  -- the state that a list of calls leaves, from the one that it starts with
  abbrev pub left_by : CountedState Value → List (Event Value) → CountedState Value
  left_by S [] = S
  left_by S (e ∷ es) = left_by (view_counted N e.after) es

-- The same answers, numbers of pair steps, solved vectors, dimensions and active factors after each call, and the same counters, as they count; and where the
-- session began with a figure of at most 999,999, as every counter is that these calls handed back, equal counters.
abbrev pub SameSession : {A : Type 0} → ℕ → List (CountedResult A) → List (CountedResult A) → Type 0
SameSession counter as' bs = AllSame (figures_of as') (figures_of bs) × (counter ≤ 999999 → AllSame as' bs)

-- a trace of managed calls on doubles
abbrev pub ManagedTrace : ℕ → ℕ → CountedState Float → List (Call Float) → List (Event Float) → Type 0
ManagedTrace = Trace doubles (managed_epsilon binary64) (managed_tiny binary64)

-- The calls cs₁ on an instance that starts in S₁, its card, and from the card the calls cs₂ on another instance, at another capacity: the premises are demand 3's
-- for the whole list on both sides.
pub record Resumed (cs₁ cs₂ : List (Call Float)) (S S₁ : CountedState Float) (capacity₁ capacity₂ : ℕ) (es₁ es₂ : List (Event Float)) : Type 0 where
  pub start : AgreeCounted S S₁
  pub room₁ : S.state.n + pushes (cs₁ ++ cs₂) ≤ capacity₁
  pub room₂ : S.state.n + pushes (cs₁ ++ cs₂) ≤ capacity₂
  pub trace₁ : ManagedTrace capacity₁ (S.state.n + pushes (cs₁ ++ cs₂)) S₁ cs₁ es₁
  -- the writer gets the state and active factors as the calls left them, whatever else the memory holds
  pub v : StateValue
  pub l : List Float
  pub u : List Float
  pub card : List ℕ
  pub resumes : AgreeCounted (left_by doubles S₁ es₁) (held v l u)
  pub wrote : Wrote v l u card
  -- the reader is lent storage of the other capacity that passes, whatever it holds
  pub l₂ : List Float
  pub u₂ : List Float
  pub l₂' : List Float
  pub u₂' : List Float
  pub answer : CardAnswer StateValue
  pub lends : size_tests capacity₂ (length l₂) (length u₂) ≡ none
  pub outcome : CardRead capacity₂ l₂ u₂ card l₂' u₂' answer
  -- and the calls go on from the state that it hands back
  pub trace₂ : (w : StateValue) → answer ≡ answered w → ManagedTrace capacity₂ (S.state.n + pushes (cs₁ ++ cs₂)) (held w l₂' u₂') cs₂ es₂

-- The card is accepted; and the plain machine's run of the whole list, the unbroken list on any instance, and the two parts give the same after each call.
pub record ResumedClaim (cs₁ cs₂ : List (Call Float)) (S : CountedState Float) (answer : CardAnswer StateValue) (es₁ es₂ : List (Event Float)) : Type 0 where
  pub accepted : (w : StateValue) × (answer ≡ answered w)
  pub machine : SameSession S.counter (counted_run doubles (managed_epsilon binary64) (managed_tiny binary64) S (cs₁ ++ cs₂)) (results doubles (es₁ ++ es₂))
  pub unbroken : (S₃ : CountedState Float) (capacity₃ : ℕ) (es₃ : List (Event Float)) → AgreeCounted S S₃ → S.state.n + pushes (cs₁ ++ cs₂) ≤ capacity₃
      → ManagedTrace capacity₃ (S.state.n + pushes (cs₁ ++ cs₂)) S₃ (cs₁ ++ cs₂) es₃ → SameSession S.counter (results doubles es₃) (results doubles (es₁ ++ es₂))

-- for every list, cut anywhere
abbrev pub Resumption : Type 0
Resumption =
    (cs₁ cs₂ : List (Call Float)) (S S₁ : CountedState Float) (capacity₁ capacity₂ : ℕ) (es₁ es₂ : List (Event Float))
    → (r : Resumed cs₁ cs₂ S S₁ capacity₁ capacity₂ es₁ es₂) → ResumedClaim cs₁ cs₂ S r.answer es₁ es₂
