-- Demand 3: lists of managed calls, what an instance makes of one, and the claim about the whole list.
use Rattle.std.specs.Prelude.{T as So, ◌≡◌, cond, List, [], ◌∷◌, ℕ, ◌+◌, ◌≤◌, length}
use Rattle.std.proofs.Math.Option.{none}
use Rattle.numbers.specs.NumberForm.{NumberForm}
use Rattle.machine.specs.Calls.{Call, is_push, is_update}
use Rattle.machine.specs.Counter.{CountedState, CountedResult, counted_run}
use Rattle.machine.specs.Agreement.{AgreeCounted, SameCounted}
use Rattle.managed.specs.Instance.{Instance, view, view_counted}
use Rattle.managed.specs.Refusals as refusals
use Rattle.managed.specs.Outcome.{Report, result_of, Outcome}

module _ {A : Type 0} where
  -- Pushes in the list are counted whether refused or not.
  abbrev pub pushes : List (Call A) → ℕ
  pushes [] = 0
  pushes (c ∷ cs) = cond (is_push c) 1 0 + pushes cs

  -- the same after each call
  abbrev pub AllSame : List (CountedResult A) → List (CountedResult A) → Type 0
  AllSame [] [] = Unit {0}
  AllSame [] (b ∷ bs) = ⊥
  AllSame (a ∷ as') [] = ⊥
  AllSame (a ∷ as') (b ∷ bs) = SameCounted a b × AllSame as' bs

-- one call of an instance, as it happened
pub record Event (A : Type 0) : Type 0 where
  pub before : Instance A
  pub after : Instance A
  pub report : Report A

module _ (N : NumberForm) where
  open N use {Value}

  abbrev pub counted_result_of : Event Value → CountedResult Value
  counted_result_of e = record { result = result_of e.report (view N e.after); steps = e.report.steps; counter = e.after.counter }

  abbrev pub results : List (Event Value) → List (CountedResult Value)
  results [] = []
  results (e ∷ es) = counted_result_of e ∷ results es

module _ (N : NumberForm) (E T : N.Value) where
  open N use {Value}

  -- The call c of an instance that stays at one capacity, where `room` is the starting dimension plus the pushes in the list. It gets the dimension, active
  -- factors and counter of S, as the call before left them, and lends storage and workspaces that pass refusals 1 to 3, 13 and 14. What else its memory holds,
  -- and how long its buffers are beyond that, is free.
  pub record Happens (capacity room : ℕ) (S : CountedState Value) (c : Call Value) (e : Event Value) : Type 0 where
    pub resumes : AgreeCounted S (view_counted N e.before)
    pub at_capacity : e.before.c ≡ capacity
    pub lends : refusals.lends e.before c ≡ none
    pub workspace : So (is_update c) → room ≤ length e.before.y
    pub outcome : Outcome N E T c e.before e.after e.report

  -- a list of calls, one after another
  abbrev pub Trace : ℕ → ℕ → CountedState Value → List (Call Value) → List (Event Value) → Type 0
  Trace capacity room S [] [] = Unit {0}
  Trace capacity room S [] (e ∷ es) = ⊥
  Trace capacity room S (c ∷ cs) [] = ⊥
  Trace capacity room S (c ∷ cs) (e ∷ es) = Happens capacity room S c e × Trace capacity room (view_counted N e.after) cs es

  -- The premises: all start at one dimension with equal active entries and counters, the plain machine from S and the instances from S₁ and S₂; capacities
  -- and workspaces are at least the starting dimension plus the number of pushes in the list.
  pub record Setting (cs : List (Call Value)) (S S₁ S₂ : CountedState Value) (capacity₁ capacity₂ : ℕ) (es₁ es₂ : List (Event Value)) : Type 0 where
    pub start₁ : AgreeCounted S S₁
    pub start₂ : AgreeCounted S S₂
    pub room₁ : S.state.n + pushes cs ≤ capacity₁
    pub room₂ : S.state.n + pushes cs ≤ capacity₂
    pub trace₁ : Trace capacity₁ (S.state.n + pushes cs) S₁ cs es₁
    pub trace₂ : Trace capacity₂ (S.state.n + pushes cs) S₂ cs es₂

  -- two instances and the plain machine give the same
  pub record Claim (cs : List (Call Value)) (S : CountedState Value) (es₁ es₂ : List (Event Value)) : Type 0 where
    pub first : AllSame (counted_run N E T S cs) (results N es₁)
    pub second : AllSame (counted_run N E T S cs) (results N es₂)
    pub both : AllSame (results N es₁) (results N es₂)
