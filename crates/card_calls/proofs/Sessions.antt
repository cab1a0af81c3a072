-- A session that goes on from a card: over any number form, where the second part starts with the state that the first left, its counter as it counts; then for the
-- doubles with the card between.
use mathlib.Core.Path.{◌≡◌, refl, ap, ◌∙◌, subst}
use mathlib.Core.Bool.{Bool, true, false, cond}
use mathlib.Core.Option.{Option, none, some}
use mathlib.Core.List.{List, [], ◌∷◌, ◌++◌}
use Prim.Native.Nat.{ℕ, ◌+◌, ◌≤◌}
use native.Mathlib.Omega.{arith}
use Rattle.numbers.specs.NumberForm.{NumberForm}
use Rattle.machine.specs.Calls.{Call, Answer, is_update}
use Rattle.machine.specs.Machine.{refusal}
use Rattle.machine.specs.Counts.{count}
use Rattle.machine.specs.Counter.{capped, counter_under, CountedState, CountedResult, after_counted, as_counted, figures_of, counted_step, counted_run}
use Rattle.machine.specs.Agreement.{AgreeCounted}
use Rattle.machine.proofs.Choice.{agree_counted_trans}
use Rattle.machine.proofs.Counter.{figures_alike}
use Rattle.managed.specs.Instance.{view_counted}
use Rattle.managed.specs.Lists.{pushes, AllSame, Event, counted_result_of, results, Trace}
use Rattle.managed.proofs.ListClaim.{all_same_join, step_grows, trace_same}
use Rattle.card_calls.specs.Sessions.{left_by, SameSession}

module _ {A : Type 0} where
  pub pushes_both : (cs ds : List (Call A)) → pushes (cs ++ ds) ≡ pushes cs + pushes ds
  pushes_both [] ds = omega arith
  pushes_both (c ∷ cs) ds = omega (arith, pushes_both cs ds)

  -- lists of results one after another
  all_same_then : (as' bs cs ds : List (CountedResult A)) → AllSame as' bs → AllSame cs ds → AllSame (as' ++ cs) (bs ++ ds)
  all_same_then [] [] cs ds h k = k
  all_same_then [] (b ∷ bs) cs ds h k = absurd h
  all_same_then (a ∷ as') [] cs ds h k = absurd h
  all_same_then (a ∷ as') (b ∷ bs) cs ds h k = (h.0, all_same_then as' bs cs ds h.1 k)

  figures_then : (as' bs : List (CountedResult A)) → figures_of (as' ++ bs) ≡ figures_of as' ++ figures_of bs
  figures_then [] bs = refl
  figures_then (a ∷ as') bs = λ i. record { result = a.result; steps = a.steps; counter = capped a.counter } ∷ figures_then as' bs i

  -- what is the same is the same as it counts
  figures_same : (as' bs : List (CountedResult A)) → AllSame as' bs → AllSame (figures_of as') (figures_of bs)
  figures_same [] [] h = tt
  figures_same [] (b ∷ bs) h = h
  figures_same (a ∷ as') [] h = h
  figures_same (a ∷ as') (b ∷ bs) h = (record { result = h.0.result; steps = h.0.steps; counter = ap capped h.0.counter }, figures_same as' bs h.1)

module _ (N : NumberForm) (E T : N.Value) where
  open N use {Value}

  results_then : (es fs : List (Event Value)) → results N (es ++ fs) ≡ results N es ++ results N fs
  results_then [] fs = refl
  results_then (e ∷ es) fs = λ i. counted_result_of N e ∷ results_then es fs i

  -- the state that the machine is in after a list
  abbrev pub after_run : CountedState Value → List (Call Value) → CountedState Value
  after_run S [] = S
  after_run S (c ∷ cs) = after_run (after_counted (counted_step N E T S c)) cs

  run_then : (S : CountedState Value) (cs ds : List (Call Value)) → counted_run N E T S (cs ++ ds) ≡ counted_run N E T S cs ++ counted_run N E T (after_run S cs) ds
  unfolding counted_run
  run_then S [] ds = refl
  run_then S (c ∷ cs) ds = λ i. counted_step N E T S c ∷ run_then (after_counted (counted_step N E T S c)) cs ds i

  pub run_grows : (S : CountedState Value) (cs : List (Call Value)) → (after_run S cs).state.n ≤ S.state.n + pushes cs
  unfolding counted_step
  run_grows S [] = omega arith
  run_grows S (c ∷ cs) = omega (arith, step_grows N E T S.state c, run_grows (after_counted (counted_step N E T S c)) cs)

  -- calls that give the same leave states that agree
  left_same : (S R : CountedState Value) (cs : List (Call Value)) (es : List (Event Value)) → AgreeCounted S R → AllSame (counted_run N E T S cs) (results N es)
      → AgreeCounted (after_run S cs) (left_by N R es)
  unfolding counted_run
  left_same S R [] [] a h = a
  left_same S R [] (e ∷ es) a h = absurd h
  left_same S R (c ∷ cs) [] a h = absurd h
  left_same S R (c ∷ cs) (e ∷ es) a h =
      left_same (after_counted (counted_step N E T S c)) (view_counted N e.after) cs es (record { state = h.0.result.after; counter = h.0.counter }) h.1

  within_figures : (update : Bool) (k m : ℕ) → k ≤ 999999 → cond update (capped (k + m)) k ≤ 999999
  within_figures true k m h = omega arith
  within_figures false k m h = h

  counter_within : (o : Option Answer) (c : Call Value) (k m : ℕ) → k ≤ 999999 → counter_under o c k m ≤ 999999
  counter_within none c k m h = within_figures (is_update c) k m h
  counter_within (some a) c k m h = h

  -- a counter of at most 999,999 stays so
  run_within : (S : CountedState Value) (cs : List (Call Value)) → S.counter ≤ 999999 → (after_run S cs).counter ≤ 999999
  unfolding counted_step
  run_within S [] h = h
  run_within S (c ∷ cs) h =
      run_within (after_counted (counted_step N E T S c)) cs (counter_within (refusal N S.state c) c S.counter (count N E T S.state c) h)

  -- the state as it counts is the state, where its counter is at most 999,999
  counted_alike : (M : CountedState Value) → M.counter ≤ 999999 → as_counted M ≡ M
  counted_alike M h =
      let e : capped M.counter ≡ M.counter = omega arith in
      λ i. record { state = M.state; counter = e i }

  module _ (capacity₁ room : ℕ) (S S₁ : CountedState Value) (cs₁ cs₂ : List (Call Value)) (es₁ : List (Event Value)) (start : AgreeCounted S S₁)
      (pushed : S.state.n + pushes (cs₁ ++ cs₂) ≤ room) (room₁ : room ≤ capacity₁) (trace₁ : Trace N E T capacity₁ room S₁ cs₁ es₁) where
    first_same : AllSame (counted_run N E T S cs₁) (results N es₁)
    first_same = trace_same N E T capacity₁ room S S₁ cs₁ es₁ start (omega (arith, pushes_both cs₁ cs₂, pushed)) room₁ trace₁

    pub left_agrees : AgreeCounted (after_run S cs₁) (left_by N S₁ es₁)
    left_agrees = left_same S S₁ cs₁ es₁ start first_same

    -- what the first part leaves has room wherever the whole list has
    pub left_within : (left_by N S₁ es₁).state.n ≤ room
    left_within = omega (arith, left_agrees.state.n, run_grows S cs₁, pushes_both cs₁ cs₂, pushed)

    module _ (capacity₂ : ℕ) (R : CountedState Value) (es₂ : List (Event Value)) (room₂ : room ≤ capacity₂) (resumes : AgreeCounted (as_counted (left_by N S₁ es₁)) R)
        (trace₂ : Trace N E T capacity₂ room R cs₂ es₂) where
      abbrev M : CountedState Value
      M = after_run S cs₁

      second_starts : AgreeCounted (as_counted M) R
      second_starts =
          agree_counted_trans (record { state = left_agrees.state; counter = ap capped left_agrees.counter }) resumes

      second_same : AllSame (counted_run N E T (as_counted M) cs₂) (results N es₂)
      second_same =
          trace_same N E T capacity₂ room (as_counted M) R cs₂ es₂ second_starts (omega (arith, run_grows S cs₁, pushes_both cs₁ cs₂, pushed)) room₂ trace₂

      parts_same : AllSame (figures_of (counted_run N E T S (cs₁ ++ cs₂))) (figures_of (results N (es₁ ++ es₂)))
      parts_same =
          let alike = figures_alike N E T M.state M.counter (capped M.counter) cs₂ (omega arith) in
          let run : figures_of (counted_run N E T S (cs₁ ++ cs₂)) ≡ figures_of (counted_run N E T S cs₁) ++ figures_of (counted_run N E T (as_counted M) cs₂) =
          ap figures_of (run_then S cs₁ cs₂) ∙ figures_then (counted_run N E T S cs₁) (counted_run N E T M cs₂) ∙ λ i. figures_of (counted_run N E T S cs₁) ++ alike i in
          let instances : figures_of (results N (es₁ ++ es₂)) ≡ figures_of (results N es₁) ++ figures_of (results N es₂) =
          ap figures_of (results_then es₁ es₂) ∙ figures_then (results N es₁) (results N es₂) in
          rw (run, instances)
          (all_same_then _ _ _ _ (figures_same _ _ first_same) (figures_same _ _ second_same))

      parts_equal : S.counter ≤ 999999 → AllSame (counted_run N E T S (cs₁ ++ cs₂)) (results N (es₁ ++ es₂))
      parts_equal h =
          let e = counted_alike M (run_within S cs₁ h) in
          rw (run_then S cs₁ cs₂, results_then es₁ es₂) (all_same_then _ _ _ _ first_same (subst (λ (Q : CountedState Value). AllSame (counted_run N E T Q cs₂) (results N es₂)) e second_same))

      pub machine_same : SameSession S.counter (counted_run N E T S (cs₁ ++ cs₂)) (results N (es₁ ++ es₂))
      machine_same = (parts_same, parts_equal)

      pub unbroken_same : (S₃ : CountedState Value) (capacity₃ : ℕ) (es₃ : List (Event Value)) → AgreeCounted S S₃ → room ≤ capacity₃
          → Trace N E T capacity₃ room S₃ (cs₁ ++ cs₂) es₃ → SameSession S.counter (results N es₃) (results N (es₁ ++ es₂))
      unbroken_same S₃ capacity₃ es₃ start₃ room₃ trace₃ =
          let whole = trace_same N E T capacity₃ room S S₃ (cs₁ ++ cs₂) es₃ start₃ pushed room₃ trace₃ in
          (all_same_join _ _ _ (figures_same _ _ whole) parts_same, λ h. all_same_join _ _ _ whole (parts_equal h))
