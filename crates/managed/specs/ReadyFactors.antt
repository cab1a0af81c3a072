-- Document 02 (d), lamp on, reading NaN: demand 1 for ready, whose contract says that it answers `ready_answer` and which writes nothing; that nothing but active
-- entries is looked at; that on ready factors no solve is refused; and that demand 3's lists leave the same readiness after each call.
use Rattle.std.specs.Prelude.{◌≡◌, Bool, true, false, List, [], ◌∷◌, ◌↔◌, ℕ, ◌<◌, length, Float}
use Rattle.std.proofs.Math.Option.{none, some}
use Rattle.std.specs.Float.{Format}
use Rattle.numbers.specs.NumberForm.{NumberForm, ieee}
use Rattle.numbers.specs.Tolerances.{managed_epsilon, managed_tiny}
use Rattle.machine.specs.Calls.{Call, solve, solve_transpose, Answer, number_of}
use Rattle.machine.specs.Counter.{CountedState, CountedResult, counted_run}
use Rattle.machine.specs.Agreement.{Agree}
use Rattle.machine.specs.Readiness.{Ready, is_ready}
use Rattle.storage.specs.Views.{state_at}
use Rattle.managed.specs.Instance.{StateValue, lent_to_solve}
use Rattle.managed.specs.Refusals.{storage_tests, refusal_at}
use Rattle.managed.specs.StorageAnswers.{answered, not_answered, ready_answer}
use Rattle.managed.specs.Lists.{Event, results, Setting}

module _ (N : NumberForm) where
  open N use {Value}

  -- What is asked of ready at dimension n and capacity c, with l and u lent
  pub record ReadyDemand (n c : ℕ) (l u : List Value) : Type 0 where
    -- the refusal of the storage, which is the first to hold, a number above 0
    pub refused : (a : Answer) → storage_tests n c (length l) (length u) ≡ some a → (ready_answer N n c l u ≡ not_answered a) × (0 < number_of a)
    -- otherwise yes exactly where no diagonal is refused and every active entry of L and U is finite
    pub yes : (ready_answer N n c l u ≡ answered true) ↔ ((storage_tests n c (length l) (length u) ≡ none) × Ready N (state_at N c n l u))
    -- and no exactly where the storage passes and that is not so
    pub no : (ready_answer N n c l u ≡ answered false) ↔ ((storage_tests n c (length l) (length u) ≡ none) × ¬ Ready N (state_at N c n l u))

  -- the readiness of the factors after each call
  abbrev pub ready_after : List (CountedResult Value) → List Bool
  ready_after [] = []
  ready_after (r ∷ rs) = is_ready N r.result.after ∷ ready_after rs

module _ (F : Format) where
  pub record ReadyFactors : Type 0 where
    pub demand : (n c : ℕ) (l u : List Float) → ReadyDemand (ieee F) n c l u
    -- Nothing outside the active entries is looked at: storages with equal active entries get the same answer, whatever else they hold, at any capacities and
    -- lengths at which the storage tests give the same.
    pub active_alone : (n c c' : ℕ) (l u l' u' : List Float) → storage_tests n c (length l) (length u) ≡ storage_tests n c' (length l') (length u')
        → Agree (state_at (ieee F) c n l u) (state_at (ieee F) c' n l' u') → ready_answer (ieee F) n c l u ≡ ready_answer (ieee F) n c' l' u'
    -- where ready says yes, no solve of a right-hand side as long as the dimension is refused
    pub no_solve_refused : (v : StateValue) (l u b : List Float) → ready_answer (ieee F) v.n v.capacity l u ≡ answered true → length b ≡ v.n
        → (refusal_at (ieee F) (lent_to_solve v l u) (solve b) ≡ none) × (refusal_at (ieee F) (lent_to_solve v l u) (solve_transpose b) ≡ none)
    -- after each call of a list, two instances and the plain machine are ready or not alike
    pub lists : (cs : List (Call Float)) (S S₁ S₂ : CountedState Float) (capacity₁ capacity₂ : ℕ) (es₁ es₂ : List (Event Float))
        → Setting (ieee F) (managed_epsilon F) (managed_tiny F) cs S S₁ S₂ capacity₁ capacity₂ es₁ es₂
        → let alone = ready_after (ieee F) (counted_run (ieee F) (managed_epsilon F) (managed_tiny F) S cs) in
        (alone ≡ ready_after (ieee F) (results (ieee F) es₁)) × (alone ≡ ready_after (ieee F) (results (ieee F) es₂))
