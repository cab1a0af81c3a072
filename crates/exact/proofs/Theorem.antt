-- After every list of calls from dimension zero, L × A = U, and L sends only the zero column to zero, A being what the accepted calls spell out.
use mathlib.Core.Path.{◌≡◌, refl, sym, ap, subst, ◌∙◌}
use mathlib.Core.Bool.{cond}
use mathlib.Core.List.{List, [], ◌∷◌}
use mathlib.Core.Logic.{◌≢◌}
use mathlib.Core.Option.{Option, none, some}
use Prim.Native.Nat.{ℕ, ◌<◌}
use native.Mathlib.Omega.{arith}
use lib.Dec.{leb, eqb}
use borrow.Author.Tests.{eqb-true, eqb-false}
use Rattle.numbers.specs.NumberForm.{NumberForm}
use Rattle.machine.specs.Tables.{Table, State}
use Rattle.machine.specs.Products.{product}
use Rattle.machine.specs.Calls.{Call, push, replace_row, replace_column, remove, solve, solve_transpose, Answer, refused, number_of}
use Rattle.machine.specs.LentData.{lent_data, data_test}
use Rattle.machine.specs.Machine.{index_tests, refusal, accepted, step_under, step, run}
use Rattle.machine.proofs.Refusals.{or_else_none, index_within, refusal_passed}
use Rattle.machine.proofs.LentData.{none_if_finite}
use Rattle.machine.proofs.Numbered.{refusal_above_zero, accepted_is_0}
use Rattle.exact.specs.Fractions.{Fraction, whole, Undefined, fractions}
use Rattle.exact.specs.Matrix.{Matrix, updated, updated_by, matrix_of}
use Rattle.exact.specs.Runs.{AllAccepted, accepted_calls, last_state, exact_run}
use Rattle.exact.specs.Factored.{upper_triangle, factor_times, Factored, FactorsWithoutRounding}
use Rattle.exact.proofs.Ring.{tested, cond_ap, empty_factorization}
use Rattle.exact.proofs.Elimination.{ExactLaws}
use Rattle.exact.proofs.Updates.{val_product, Invariant, pushed_kept, row_replaced_kept, column_replaced_kept, removed_kept}
use Rattle.exact.proofs.Fractions.{laws, laws_equal, laws_as_fractions}

-- ---- a refused call changes nothing, over every number form

module _ (N : NumberForm) (E T : N.Value) where
  open N use {Value}

  refused_after : (S : State Value) (c : Call Value) → number_of (step N E T S c).answer ≢ 0 → (step N E T S c).after ≡ S
  unfolding step step_under
  refused_after S c = go (refusal N S c)
    where
      go : (o : Option Answer) → number_of (step_under N E T o S c).answer ≢ 0 → (step_under N E T o S c).after ≡ S
      go none d = absurd (d (accepted_is_0 N E T S c))
      go (some a) d = refl

  -- the accepted calls of a list, run alone, are all accepted, and leave what the list leaves
  pub accepted_alone : (S : State Value) (cs : List (Call Value))
      → let results = run N E T S cs in
      let alone = run N E T S (accepted_calls cs results) in
      AllAccepted alone × (last_state S alone ≡ last_state S results)
  unfolding run
  accepted_alone S [] = (tt, refl)
  accepted_alone S (c ∷ cs) =
      let R = (step N E T S c).after in
      let kept = accepted_calls cs (run N E T R cs) in
      let rest = accepted_alone R cs in
      tested (eqb (number_of (step N E T S c).answer) 0)
      (λ e. rw e ((eqb-true _ 0 e, rest.0), rest.1))
      (λ e. rw e (subst (λ (Q : State Value). AllAccepted (run N E T Q kept) × (last_state Q (run N E T Q kept) ≡ last_state R (run N E T R cs)))
      (refused_after S c (eqb-false _ 0 e)) rest))

-- ---- an accepted call keeps L × A = U

module _ {N : NumberForm} (Λ : ExactLaws N) where
  open N use {Value, zero as 𝟘}

  pub record Kept (S : State Value) (A : Matrix Value) : Type 0 where
    pub size : A.n ≡ S.n
    pub factorization : Invariant Λ S.n S.n A.entries S.L S.U

  module _ (S : State Value) (A : Table Value) (h : Invariant Λ S.n S.n A S.L S.U) where
    abbrev A₀ : Matrix Value
    A₀ = record { n = S.n; entries = A }

    accepted_kept : (c : Call Value) → index_tests N S c ≡ none → Kept (accepted N 𝟘 𝟘 S c).after (updated N A₀ c)
    unfolding accepted index_tests updated
    accepted_kept (push row column d) e = record { size = refl; factorization = pushed_kept Λ S.n A S.L S.U row column d h }
    accepted_kept (replace_row r row) e =
        record { size = refl; factorization = row_replaced_kept Λ S.n A S.L S.U r row (index_within S.n r (refused 5) (or_else_none _ _ e).0) h }
    accepted_kept (replace_column k column) e =
        record { size = refl; factorization = column_replaced_kept Λ S.n A S.L S.U k column (index_within S.n k (refused 6) (or_else_none _ _ e).0) h }
    accepted_kept (remove r k) e =
        let o = or_else_none _ _ e in
        let hr = index_within S.n r (refused 5) o.0 in
        let hk = index_within S.n k (refused 6) o.1 in
        record { size = refl; factorization = removed_kept Λ S.n A S.L S.U r k hr hk h }
    accepted_kept (solve b) e = record { size = refl; factorization = h }
    accepted_kept (solve_transpose b) e = record { size = refl; factorization = h }

    -- no update that is refused counts as accepted
    refused_kept : (c : Call Value) (a : Answer) → refusal N S c ≡ some a → number_of a ≡ 0 → Kept S (updated N A₀ c)
    refused_kept c a e z = let h : 0 < number_of a = refusal_above_zero N S c a e in absurd (omega (arith, z))

    step_kept_at : (c : Call Value) → number_of (step N 𝟘 𝟘 S c).answer ≡ 0 → Kept (step N 𝟘 𝟘 S c).after (updated N A₀ c)
    unfolding step step_under
    step_kept_at c = go (refusal N S c) refl
      where
        go : (o : Option Answer) → refusal N S c ≡ o → number_of (step_under N 𝟘 𝟘 o S c).answer ≡ 0 → Kept (step_under N 𝟘 𝟘 o S c).after (updated N A₀ c)
        go none e z = accepted_kept c (refusal_passed N S c e).0
        go (some a) e z = refused_kept c a e z

  step_kept : (S : State Value) (A : Matrix Value) (c : Call Value) → number_of (step N 𝟘 𝟘 S c).answer ≡ 0 → Kept S A
      → Kept (step N 𝟘 𝟘 S c).after (updated N A c)
  step_kept S A c z k =
      subst (λ (n : ℕ). Kept (step N 𝟘 𝟘 S c).after (updated N (record { n = n; entries = A.entries }) c)) (sym k.size)
      (step_kept_at S A.entries k.factorization c z)

  pub run_kept : (S : State Value) (A : Matrix Value) (cs : List (Call Value)) → AllAccepted (run N 𝟘 𝟘 S cs) → Kept S A
      → Kept (last_state S (run N 𝟘 𝟘 S cs)) (updated_by N A cs)
  unfolding run updated_by
  run_kept S A [] z k = k
  run_kept S A (c ∷ cs) z k = run_kept (step N 𝟘 𝟘 S c).after (updated N A c) cs z.1 (step_kept S A c (omega (arith, z.0)) k)

-- ---- the theorem

-- no call is refused for its data, since every fraction is finite
pub data_accepted : (undefined : Undefined) (c : Call Fraction) → data_test (fractions undefined) c ≡ none
data_accepted undefined c = none_if_finite (fractions undefined) 0 (lent_data c) (λ i l. refl)

module _ (undefined : Undefined) where
  abbrev N : NumberForm
  N = fractions undefined

  abbrev Λ : ExactLaws N
  Λ = laws undefined

  -- what holds of the values holds of the fractions
  factored : (S : State Fraction) (A : Matrix Fraction) → Kept Λ S A → Factored undefined S A
  factored S A k = record {
    size = k.size;
    factors = λ i j hi hj. laws_as_fractions undefined (factor_times undefined S.n S.L A.entries i j) (upper_triangle S.U i j)
        (val_product Λ S.n S.L (λ t. A.entries t j) i ∙ k.factorization.product i j hi hj ∙ below i j);
    regular = λ x z j hj. laws_as_fractions undefined (x j) (whole 0) (k.factorization.regular (λ t. Λ.val (x t))
        (λ i hi. sym (val_product Λ S.n S.L x i) ∙ laws_equal undefined (product N S.n S.L x i) (whole 0) (z i (omega arith)) ∙ Λ.val_zero) j hj ∙ sym Λ.val_zero);
  }
    where
      below : (i j : ℕ) → cond (leb i j) (Λ.val (S.U i j)) Λ.ring.𝟎 ≡ Λ.val (upper_triangle S.U i j)
      below i j = sym (cond_ap Λ.val (leb i j) (S.U i j) (whole 0) ∙ ap (cond (leb i j) (Λ.val (S.U i j))) Λ.val_zero)

  accepted_list : (S : State Fraction) (calls : List (Call Fraction)) → S.n ≡ 0 → AllAccepted (exact_run undefined S calls)
      → Factored undefined (last_state S (exact_run undefined S calls)) (matrix_of N calls)
  unfolding matrix_of
  accepted_list S calls e a =
      let start : Invariant Λ S.n S.n (λ i j. undefined.absent) S.L S.U = rw e (empty_factorization Λ.ring) in
      factored (last_state S (exact_run undefined S calls)) (matrix_of N calls) (run_kept Λ S _ calls a (record { size = sym e; factorization = start }))

pub factors_without_rounding : FactorsWithoutRounding
factors_without_rounding undefined S calls from_zero =
    let e : S.n ≡ 0 = omega arith in
    let kept = accepted_calls calls (exact_run undefined S calls) in
    let alone = accepted_alone (fractions undefined) (whole 0) (whole 0) S calls in
    record {
      accepted_list = accepted_list undefined S calls e;
      every_list = subst (λ (R : State Fraction). Factored undefined R (matrix_of (fractions undefined) kept)) alone.1 (accepted_list undefined S kept e alone.0);
    }
