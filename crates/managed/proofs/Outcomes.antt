-- From a refusal, or from what an accepted call did, to the outcome.
use mathlib.Core.Path.{◌≡◌, refl, sym, ◌∙◌, subst}
use mathlib.Core.Bool.{Bool, true, false}
use mathlib.Core.List.{List, []}
use mathlib.Core.Option.{Option, none, some}
use Prim.Native.Nat.{ℕ, ◌+◌, ◌≤◌, max}
use native.Mathlib.Omega.{arith}
use Rattle.numbers.specs.NumberForm.{NumberForm}
use Rattle.machine.specs.Calls.{Call, Answer, done, Result, given, is_update}
use Rattle.machine.specs.Machine.{accepted, step_under}
use Rattle.machine.specs.Counts.{accepted_count, count_under}
use Rattle.machine.specs.Counter.{capped, counter_after}
use Rattle.machine.specs.Agreement.{Agree, Same}
use Rattle.machine.proofs.Choice.{agree_refl}
use Rattle.machine.proofs.Refusals.{none_is_some}
use Rattle.storage.specs.Places.{WorkPlace, l_index}
use Rattle.storage.specs.Views.{state_at, Kept}
use Rattle.storage.specs.Updated.{CarriedOut}
use Rattle.storage.proofs.Places.{l_index_not_work}
use Rattle.managed.specs.Instance.{StateValue, state_value, Instance, instance, lent_to_solve, view}
use Rattle.managed.specs.Refusals.{refusal_at}
use Rattle.managed.specs.Outcome.{Report, report, result_of, Frame, Outcome}

module _ (N : NumberForm) (E T : N.Value) (c : Call N.Value) (s : Instance N.Value) where
  open N use {Value}

  pub outcome_refused : {a : Answer} → refusal_at N s c ≡ some a → Outcome N E T c s s (report a (given c) 0)
  unfolding step_under count_under
  outcome_refused {a} e = record {
    result = subst (λ (p : Option Answer). Same (result_of (report a (given c) 0) (view N s)) (step_under N E T p (view N s) c)) (sym e)
        (record { answer = refl; solved = refl; after = agree_refl (view N s) });
    steps = rw e;
    capacity = refl;
    counter = rw e;
    untouched = λ a' _. refl;
    frame = λ f. absurd (none_is_some f e);
  }

  pub outcome_accepted : {t : Instance Value} {r : Report Value} → refusal_at N s c ≡ none → Same (result_of r (view N t)) (accepted N E T (view N s) c)
      → r.steps ≡ accepted_count N E T (view N s) c → t.c ≡ s.c → t.counter ≡ counter_after c s.counter r.steps → Frame N (is_update c) s t → Outcome N E T c s t r
  unfolding step_under count_under
  outcome_accepted {t} {r} e same counted same-capacity added framed = record {
    result = subst (λ (p : Option Answer). Same (result_of r (view N t)) (step_under N E T p (view N s) c)) (sym e) same;
    steps = rw e counted;
    capacity = same-capacity;
    counter = rw e added;
    untouched = λ a f. absurd (none_is_some e f);
    frame = λ _. framed;
  }

-- the state and the report after it may be written another way
pub outcome_as : (N : NumberForm) (E T : N.Value) {c : Call N.Value} {s : Instance N.Value} {v v' : StateValue} {l u y z w : List N.Value} {r r' : Report N.Value} → v ≡ v' → r ≡ r'
    → Outcome N E T c s (instance v' l u y z w) r' → Outcome N E T c s (instance v l u y z w) r
outcome_as N E T {c} {s} {v} {v'} {l} {u} {y} {z} {w} {r} {r'} e f o =
    subst (λ (q : Report N.Value). Outcome N E T c s (instance v l u y z w) q) (sym f) (subst (λ (q : StateValue). Outcome N E T c s (instance q l u y z w) r') (sym e) o)

-- ---- an update that is carried out on storage

module _ (N : NumberForm) (E T : N.Value) (call : Call N.Value) (v : StateValue) (l u y z w : List N.Value) where
  open N use {Value}

  abbrev R : Result Value
  R = accepted N E T (state_at N v.capacity v.n l u) call

  -- p is the dimension after it, m the larger of the two, and a its answer
  pub outcome_updated : (m p : ℕ) {k counter' : ℕ} {a : Answer} {l' u' y' z' w' : List Value} → is_update call ≡ true → refusal_at N (instance v l u y z w) call ≡ none
      → CarriedOut N E T v.capacity v.n m call l u y z w l' u' y' z' w' k → a ≡ R.answer → [] ≡ R.solved → p ≡ R.after.n → max v.n p ≡ m → counter' ≡ capped (v.counter + k)
      → Outcome N E T call (instance v l u y z w) (instance (state_value p v.capacity counter') l' u' y' z' w') (report a [] k)
  outcome_updated m p {k} {counter'} {a} {l'} {u'} {y'} {z'} {w'} update e d is-a is-solved is-p is_m added =
      let f = d.factors.agree in
      let t = instance (state_value p v.capacity counter') l' u' y' z' w' in
      outcome_accepted N E T call (instance v l u y z w) e
      (record { answer = is-a; solved = is-solved; after = record { n = is-p; L = λ i j hi hj. f.L i j (omega arith) (omega arith); U = λ i j hij hj. f.U i j hij (omega arith) } })
      d.steps refl (rw update added)
      (subst (λ (b : Bool). Frame N b (instance v l u y z w) t) (sym update) (rw is_m d.factors.frame))

-- ---- a solve

module _ (N : NumberForm) (E T : N.Value) (v : StateValue) (l u : List N.Value) {l' : List N.Value} (kept : Kept N (WorkPlace v.capacity v.n) l l') where
  open N use {Value}

  -- L's active entries lie apart from its solve work
  standing : v.n ≤ v.capacity → Agree (state_at N v.capacity v.n l' u) (state_at N v.capacity v.n l u)
  standing h = record {
    n = refl;
    L = λ i j hi hj. kept.same (l_index v.capacity i j) (λ p. l_index_not_work v.capacity i j p.0 (omega arith) (omega arith) p.2);
    U = λ i j _ _. refl;
  }

  -- of which b' is what the machine's call solves
  pub outcome_solved : (call : Call Value) {b' : List Value} → is_update call ≡ false → refusal_at N (lent_to_solve v l u) call ≡ none → v.n ≤ v.capacity
      → let R = accepted N E T (state_at N v.capacity v.n l u) call in done ≡ R.answer → b' ≡ R.solved → R.after ≡ state_at N v.capacity v.n l u
      → 0 ≡ accepted_count N E T (state_at N v.capacity v.n l u) call → Outcome N E T call (lent_to_solve v l u) (lent_to_solve v l' u) (report done b' 0)
  outcome_solved call solves e within is-done is-solved stands none_made =
      outcome_accepted N E T call (lent_to_solve v l u) e
      (record { answer = is-done; solved = is-solved; after = subst (Agree (state_at N v.capacity v.n l' u)) (sym stands) (standing within) }) none_made refl (rw solves refl)
      (subst (λ (b : Bool). Frame N b (lent_to_solve v l u) (lent_to_solve v l' u)) (sym solves) (record { l = kept; u = refl; y = refl; z = refl; w = refl }))

-- the calls that keep the dimension
module _ (N : NumberForm) (E T : N.Value) {c : Call N.Value} {s t : Instance N.Value} {r : Report N.Value} where
  pub dimension_stays : (accepted N E T (view N s) c).after.n ≡ s.n → Outcome N E T c s t r → t.n ≡ s.n
  unfolding step_under
  dimension_stays e o = o.result.after.n ∙ go (refusal_at N s c)
    where
      go : (p : Option Answer) → (step_under N E T p (view N s) c).after.n ≡ s.n
      go none = e
      go (some a) = refl
