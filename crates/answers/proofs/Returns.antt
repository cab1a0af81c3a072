-- From the outcome of a managed call to what it returns to a C host, which keeps the capacity, and the dimension where no call changes it.
use mathlib.Core.Path.{◌≡◌, refl, subst}
use mathlib.Core.Bool.{Bool, true, false}
use mathlib.Core.List.{List}
use Prim.Native.Nat.{ℕ}
use lib.Ieee.{Float, Format}
use Rattle.std.specs.Prelude.{Result, Ok, Err, MatchResult}
use Rattle.numbers.specs.NumberForm.{NumberForm, ieee}
use Rattle.numbers.specs.Tolerances.{managed_epsilon, managed_tiny}
use Rattle.machine.specs.Calls.{Call, push, replace_row, replace_column, remove, solve, solve_transpose, Answer, number_of, is_update}
use Rattle.machine.specs.Machine.{accepted}
use Rattle.managed.specs.Instance.{StateValue, state_value, Instance, instance, view}
use Rattle.managed.specs.Outcome.{report}
use Rattle.managed.specs.Demands.{ManagedOutcome}
use Rattle.managed.proofs.Outcomes.{dimension_stays}
use Rattle.managed.proofs.Counted.{with_counter, solve_at_any}
use Rattle.refusals.specs.declared.Refusal.{Refusal}
use Rattle.refusals.specs.Refusal.{refusal_of, answer_of}
use Rattle.answers.specs.Returned.{Returned}

-- the number that a result returns, 0 or its refusal's, is that of the answer
pub answer_number : {A : Type 0} {number : ℕ} (r : Result A Refusal)
    → MatchResult r (λ _. number ≡ 0) (λ refusal. number ≡ number_of (refusal_of refusal)) → number ≡ number_of (answer_of r)
answer_number (Ok v) e = e
answer_number (Err refusal) e = e

-- the calls that keep the dimension: all but push and remove
abbrev pub keeps_dimension : {A : Type 0} → Call A → Bool
keeps_dimension (push row column d) = false
keeps_dimension (replace_row r values) = true
keeps_dimension (replace_column k values) = true
keeps_dimension (remove r k) = false
keeps_dimension (solve rhs) = true
keeps_dimension (solve_transpose rhs) = true

pub solve_keeps : {A : Type 0} (c : Call A) → is_update c ≡ false → keeps_dimension c ≡ true
solve_keeps (push row column d) e = cc
solve_keeps (replace_row r values) e = refl
solve_keeps (replace_column k values) e = refl
solve_keeps (remove r k) e = cc
solve_keeps (solve rhs) e = refl
solve_keeps (solve_transpose rhs) e = refl

module _ (N : NumberForm) (E T : N.Value) where
  open N use {Value}

  pub dimension_kept : (c : Call Value) (s : Instance Value) → keeps_dimension c ≡ true → (accepted N E T (view N s) c).after.n ≡ s.n
  unfolding accepted
  dimension_kept (push row column d) s e = cc
  dimension_kept (replace_row r values) s e = refl
  dimension_kept (replace_column k values) s e = refl
  dimension_kept (remove r k) s e = cc
  dimension_kept (solve rhs) s e = refl
  dimension_kept (solve_transpose rhs) s e = refl

module _ (F : Format) {c : Call Float} {s : Instance Float} {v : StateValue} {k number : ℕ} {l u y z w b : List Float} {a : Answer} {Out : Answer → Type 0}
    (o : ManagedOutcome F c s (instance v l u y z w) (report a b k)) (is_number : number ≡ number_of a) (out : Out a) where
  pub returned : Returned F c s (instance (state_value v.n s.c v.counter) l u y z w) b k Out number
  returned = record {
    answer = a;
    outcome = subst (λ (q : ℕ). ManagedOutcome F c s (instance (state_value v.n q v.counter) l u y z w) (report a b k)) o.capacity o;
    is_number = is_number;
    out = out;
  }

  -- where the dimension stays
  pub returned_staying : (accepted (ieee F) (managed_epsilon F) (managed_tiny F) (view (ieee F) s) c).after.n ≡ s.n
      → Returned F c s (instance (state_value s.n s.c v.counter) l u y z w) b k Out number
  returned_staying e =
      subst (λ (m : ℕ). Returned F c s (instance (state_value m s.c v.counter) l u y z w) b k Out number)
      (dimension_stays (ieee F) (managed_epsilon F) (managed_tiny F) e o) returned

  pub returned_keeping : keeps_dimension c ≡ true → Returned F c s (instance (state_value s.n s.c v.counter) l u y z w) b k Out number
  returned_keeping e = returned_staying (dimension_kept (ieee F) (managed_epsilon F) (managed_tiny F) c s e)

-- a solve, at whatever counter the host keeps
pub returned_solved : (F : Format) {c : Call Float} {s : Instance Float} {v : StateValue} {k number : ℕ} {l u y z w b : List Float} {a : Answer} {Out : Answer → Type 0}
    → ManagedOutcome F c s (instance v l u y z w) (report a b k) → number ≡ number_of a → Out a → is_update c ≡ false
    → (m : ℕ) → Returned F c (with_counter m s) (instance (state_value s.n s.c m) l u y z w) b k Out number
returned_solved F o is_number out solves m =
    returned_keeping F (solve_at_any (ieee F) (managed_epsilon F) (managed_tiny F) o solves m) is_number out (solve_keeps _ solves)
