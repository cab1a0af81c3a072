-- Demand 3, whole, over any number form and tolerances: for every list of the six calls, two instances and the plain machine give the same after each call.
use mathlib.Core.Path.{◌≡◌, sym, ◌∙◌, subst}
use mathlib.Core.Bool.{cond}
use mathlib.Core.List.{List, [], ◌∷◌}
use mathlib.Core.Option.{Option, none, some}
use Prim.Native.Nat.{ℕ, ◌+◌, ◌≤◌}
use native.Mathlib.Omega.{arith}
use Rattle.numbers.specs.NumberForm.{NumberForm}
use Rattle.machine.specs.Tables.{State}
use Rattle.machine.specs.Calls.{Call, push, replace_row, replace_column, remove, solve, solve_transpose, Answer, is_push}
use Rattle.machine.specs.Machine.{refusal, accepted, step_under, step}
use Rattle.machine.specs.Counts.{count}
use Rattle.machine.specs.Agreement.{Agree, Same, AgreeCounted, SameCounted}
use Rattle.machine.specs.Counter.{counter_under, CountedState, CountedResult, after_counted, counted_step, counted_run}
use Rattle.machine.proofs.Choice.{agree_trans, same_sym, same_trans}
use Rattle.machine.proofs.Step.{refusal_agrees, step_same}
use Rattle.machine.proofs.Counts.{count_same}
use Rattle.managed.specs.Instance.{view, view_counted}
use Rattle.managed.specs.Refusals.{refusal_at}
use Rattle.managed.specs.Outcome.{result_of}
use Rattle.managed.specs.Lists.{pushes, AllSame, Event, counted_result_of, results, Happens, Trace, Setting, Claim}
use Rattle.managed.proofs.Refusals.{refusals_with_room}

module _ {A : Type 0} where
  same_counted_join : {a b c : CountedResult A} → SameCounted a b → SameCounted a c → SameCounted b c
  same_counted_join h k = record { result = same_trans (same_sym h.result) k.result; steps = sym h.steps ∙ k.steps; counter = sym h.counter ∙ k.counter }

  -- what is the same as one list of results is the same as each other
  pub all_same_join : (as' bs cs : List (CountedResult A)) → AllSame as' bs → AllSame as' cs → AllSame bs cs
  all_same_join [] [] [] h k = tt
  all_same_join [] [] (c ∷ cs) h k = k
  all_same_join [] (b ∷ bs) [] h k = h
  all_same_join [] (b ∷ bs) (c ∷ cs) h k = absurd h
  all_same_join (a ∷ as') [] [] h k = tt
  all_same_join (a ∷ as') [] (c ∷ cs) h k = h
  all_same_join (a ∷ as') (b ∷ bs) [] h k = k
  all_same_join (a ∷ as') (b ∷ bs) (c ∷ cs) h k = (same_counted_join h.0 k.0, all_same_join as' bs cs h.1 k.1)

module _ (N : NumberForm) (E T : N.Value) where
  open N use {Value}

  -- the dimension grows by pushes alone
  pub accepted_grows : (S : State Value) (c : Call Value) → (accepted N E T S c).after.n ≤ S.n + cond (is_push c) 1 0
  unfolding accepted
  accepted_grows S (push row column d) = omega arith
  accepted_grows S (replace_row r row) = omega arith
  accepted_grows S (replace_column k column) = omega arith
  accepted_grows S (remove r k) = omega arith
  accepted_grows S (solve b) = omega arith
  accepted_grows S (solve_transpose b) = omega arith

  pub step_grows : (S : State Value) (c : Call Value) → (step N E T S c).after.n ≤ S.n + cond (is_push c) 1 0
  unfolding step step_under
  step_grows S c = go (refusal N S c)
    where
      go : (o : Option Answer) → (step_under N E T o S c).after.n ≤ S.n + cond (is_push c) 1 0
      go none = accepted_grows S c
      go (some a) = omega arith

  -- one call: whatever else stands in memory, it gives what the machine gives
  event_same : (capacity room : ℕ) (S R : CountedState Value) (c : Call Value) (e : Event Value) → AgreeCounted S R → S.state.n + cond (is_push c) 1 0 ≤ room → room ≤ capacity
      → Happens N E T capacity room R c e → SameCounted (counted_step N E T S c) (counted_result_of N e)
  unfolding counted_step step count
  event_same capacity room S R c e a l r h =
      let b : Agree S.state (view N e.before) = agree_trans a.state h.resumes.state in
      let k : S.counter ≡ e.before.counter = omega (arith, a.counter, h.resumes.counter) in
      let q = refusals_with_room N e.before c h.lends (omega (arith, h.at_capacity, b.n)) (λ u. omega (arith, h.workspace u, b.n)) in
      let m : count N E T S.state c ≡ e.report.steps = count_same N E T S.state (view N e.before) c b ∙ sym (rw q at h.outcome.steps) in
      let p : refusal N S.state c ≡ refusal_at N e.before c = refusal_agrees N E T S.state (view N e.before) c b ∙ sym q in
      let g : counter_under (refusal N S.state c) c S.counter (count N E T S.state c) ≡ counter_under (refusal_at N e.before c) c e.before.counter e.report.steps =
      λ i. counter_under (p i) c (k i) (m i) in
      record {
        result = same_trans (step_same N E T S.state (view N e.before) c b)
            (same_sym (subst (λ (o : Option Answer). Same (result_of e.report (view N e.after)) (step_under N E T o (view N e.before) c)) q h.outcome.result));
        steps = m;
        counter = omega (arith, g, h.outcome.counter);
      }

  -- a list: one instance against the machine
  pub trace_same : (capacity room : ℕ) (S R : CountedState Value) (cs : List (Call Value)) (es : List (Event Value)) → AgreeCounted S R → S.state.n + pushes cs ≤ room → room ≤ capacity
      → Trace N E T capacity room R cs es → AllSame (counted_run N E T S cs) (results N es)
  unfolding counted_run counted_step
  trace_same capacity room S R [] [] a l r t = tt
  trace_same capacity room S R [] (e ∷ es) a l r t = t
  trace_same capacity room S R (c ∷ cs) [] a l r t = t
  trace_same capacity room S R (c ∷ cs) (e ∷ es) a l r t =
      let h = event_same capacity room S R c e a (omega arith) r t.0 in
      (h, trace_same capacity room (after_counted (counted_step N E T S c)) (view_counted N e.after) cs es (record { state = h.result.after; counter = h.counter }) (omega (arith, step_grows S.state c)) r t.1)

  pub list_claim : (cs : List (Call Value)) (S S₁ S₂ : CountedState Value) (capacity₁ capacity₂ : ℕ) (es₁ es₂ : List (Event Value))
      → Setting N E T cs S S₁ S₂ capacity₁ capacity₂ es₁ es₂ → Claim N E T cs S es₁ es₂
  list_claim cs S S₁ S₂ capacity₁ capacity₂ es₁ es₂ h =
      let f₁ = trace_same capacity₁ (S.state.n + pushes cs) S S₁ cs es₁ h.start₁ (omega arith) (omega (arith, h.room₁)) h.trace₁ in
      let f₂ = trace_same capacity₂ (S.state.n + pushes cs) S S₂ cs es₂ h.start₂ (omega arith) (omega (arith, h.room₂)) h.trace₂ in
      record { first = f₁; second = f₂; both = all_same_join (counted_run N E T S cs) (results N es₁) (results N es₂) f₁ f₂ }
