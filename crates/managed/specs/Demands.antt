-- Demands 1 and 3 for the managed interface over a format, and what document 02 (i) says of its counter: statements with E = 2^-52 (2^-23 in single precision) and
-- T its product with the value nearest 0.0001.
use Rattle.std.specs.Prelude.{◌≡◌, true, false, List, ℕ, ◌≤◌, ◌<◌, length, Float}
use Rattle.std.proofs.Math.Option.{Option, none, some}
use Rattle.std.specs.Float.{Format}
use Rattle.numbers.specs.NumberForm.{NumberForm, ieee}
use Rattle.numbers.specs.Tolerances.{managed_epsilon, managed_tiny}
use Rattle.machine.specs.Tables.{Table}
use Rattle.machine.specs.Solves.{bad_diagonal}
use Rattle.machine.specs.Calls.{Call, solve, solve_transpose, Answer, number_of, given}
use Rattle.machine.specs.Machine.{accepted}
use Rattle.machine.specs.Counts.{accepted_count, count_limit, count_most}
use Rattle.machine.specs.Counter.{counter_after, CountedState}
use Rattle.machine.specs.Agreement.{Same}
use Rattle.storage.specs.Places.{l_length, u_length, overflows}
use Rattle.storage.specs.Lengths as storage
use Rattle.storage.specs.Views.{view_u}
use Rattle.managed.specs.Instance.{StateValue, state_value, Instance, lent_to_solve, view}
use Rattle.managed.specs.Refusals.{storage_tests, refusal_at}
use Rattle.managed.specs.StorageAnswers.{adopted, not_adopted, adopted_under}
use Rattle.managed.specs.Outcome.{Report, result_of, Outcome}
use Rattle.managed.specs.Lists.{Event, Setting, Claim}

-- What is asked of a solve whose storage and length are right, by U of dimension n and the refusal o that the call gets: none exactly when no active diagonal
-- is zero, infinite or NaN (`bad_diagonal`), and otherwise the first such index is named.
pub record RefusedByDiagonal (N : NumberForm) (U : Table N.Value) (n : ℕ) (o : Option Answer) : Type 0 where
  pub accepted_if : ((i : ℕ) → i < n → bad_diagonal N (U i i) i ≡ none) → o ≡ none
  pub only_if : o ≡ none → (i : ℕ) → i < n → bad_diagonal N (U i i) i ≡ none
  pub first_named : (a : Answer) → o ≡ some a
      → (i : ℕ) × (i < n) × (bad_diagonal N (U i i) i ≡ some a) × ((j : ℕ) → j < i → bad_diagonal N (U j j) j ≡ none)

module _ (F : Format) where
  -- the outcome of a managed call: what the contracts of the six functions say
  abbrev pub ManagedOutcome : Call Float → Instance Float → Instance Float → Report Float → Type 0
  ManagedOutcome = Outcome (ieee F) (managed_epsilon F) (managed_tiny F)

  -- ---- demand 1

  -- Of any call c of an instance s that ended in t and reported r, as the six functions' contracts say
  pub record Demand1 : Type 0 where
    -- a call that passes the tests is carried out: its answer is 0, with what moved
    pub carried_out : (c : Call Float) (s t : Instance Float) (r : Report Float) → ManagedOutcome c s t r → refusal_at (ieee F) s c ≡ none
        → Same (result_of r (view (ieee F) t)) (accepted (ieee F) (managed_epsilon F) (managed_tiny F) (view (ieee F) s) c) × (number_of r.answer ≡ 0)
    -- every other gets the refusal that is the first to hold, a number above 0, with dimension, counter, factors, right-hand side and workspaces untouched
    pub refused : (c : Call Float) (s t : Instance Float) (r : Report Float) → ManagedOutcome c s t r → (a : Answer) → refusal_at (ieee F) s c ≡ some a
        → (r.answer ≡ a) × (0 < number_of r.answer) × (r.solved ≡ given c) × (t ≡ s)
    -- storage and lengths being right, a solve is refused exactly for its diagonal
    pub solve_refused : (v : StateValue) (l u b : List Float) → storage_tests v.n v.capacity (length l) (length u) ≡ none → length b ≡ v.n
        → RefusedByDiagonal (ieee F) (view_u (ieee F) v.capacity u) v.n (refusal_at (ieee F) (lent_to_solve v l u) (solve b))
    pub transpose_solve_refused : (v : StateValue) (l u b : List Float) → storage_tests v.n v.capacity (length l) (length u) ≡ none → length b ≡ v.n
        → RefusedByDiagonal (ieee F) (view_u (ieee F) v.capacity u) v.n (refusal_at (ieee F) (lent_to_solve v l u) (solve_transpose b))

  -- ---- the counter

  -- What is asked of a call c that took the instance s to t and answered k pair steps. (That the counter is 0 at adoption stands in `adopted_under`.)
  pub record Counted (c : Call Float) (s t : Instance Float) (k : ℕ) : Type 0 where
    -- each managed update adds its pair steps to the counter, which stops at 999,999, a larger figure counting as that, and answers its own exact number; a
    -- solve makes none and leaves the counter
    pub carried_out : refusal_at (ieee F) s c ≡ none
        → (k ≡ accepted_count (ieee F) (managed_epsilon F) (managed_tiny F) (view (ieee F) s) c) × (t.counter ≡ counter_after c s.counter k)
    -- a refused one answers 0 and leaves the counter
    pub refused : (a : Answer) → refusal_at (ieee F) s c ≡ some a → (k ≡ 0) × (t.counter ≡ s.counter)
    -- for dimension n before the call at most n for push, 2 × (n − 1 − i) for replacing column i, 2 × (n − 1) for a row and 3 × (n − 1) for remove
    pub at_most : k ≤ count_limit s.n c
    -- and the sharper limit, which is less for a column below the last and for remove
    pub within_most : k ≤ count_most s.n c

  abbrev pub Counting : Type 0
  Counting = (c : Call Float) (s t : Instance Float) (r : Report Float) → ManagedOutcome c s t r → Counted c s t r.steps

  -- ---- demand 3

  -- For every list of the six calls, two traces at any two capacities and the plain machine's run: `Setting` holds the premises, two `Trace`s among them, and
  -- `Claim` says that after each call all three have the same.
  abbrev pub Demand3 : Type 0
  Demand3 =
      (cs : List (Call Float)) (S S₁ S₂ : CountedState Float) (capacity₁ capacity₂ : ℕ) (es₁ es₂ : List (Event Float))
      → Setting (ieee F) (managed_epsilon F) (managed_tiny F) cs S S₁ S₂ capacity₁ capacity₂ es₁ es₂
      → Claim (ieee F) (managed_epsilon F) (managed_tiny F) cs S es₁ es₂

-- ---- demand 1 for lengths and adoption, whose contracts say that they answer `required_lengths` and `adopted_under`; they write nothing. For ready it is in
-- ReadyFactors.antt.

pub record StorageDemand1 : Type 0 where
  -- the lengths are given exactly when the sizes fit usize, and refused with 2 otherwise
  pub lengths_given : (c : ℕ) → overflows c ≡ false → storage.required_lengths c ≡ storage.lengths (l_length c) (u_length c)
  pub lengths_refused : (c : ℕ) → overflows c ≡ true → storage.required_lengths c ≡ storage.refused 2
  -- storage is adopted exactly when dimension, capacity and lengths agree, at that dimension and capacity with the counter 0
  pub adopted_if : (n c l u : ℕ) → n ≤ c → overflows c ≡ false → l_length c ≤ l → u_length c ≤ u → adopted_under (storage_tests n c l u) n c ≡ adopted (state_value n c 0)
  pub adopted_only_if : (n c l u : ℕ) → adopted_under (storage_tests n c l u) n c ≡ adopted (state_value n c 0) → (n ≤ c) × (overflows c ≡ false) × (l_length c ≤ l) × (u_length c ≤ u)
  -- and otherwise gets the refusal that is the first to hold, a number above 0
  pub if_not_adopted : (n c l u : ℕ) (a : Answer) → storage_tests n c l u ≡ some a → (adopted_under (storage_tests n c l u) n c ≡ not_adopted a) × (0 < number_of a)
