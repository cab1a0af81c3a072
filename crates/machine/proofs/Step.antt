-- Two states that agree give, for each call, the same answer, the same solved vector and states that agree.
use mathlib.Core.Path.{◌≡◌, refl, subst}
use mathlib.Core.Bool.{not}
use mathlib.Core.Option.{Option, none, some}
use Prim.Native.Nat.{ℕ, suc, ◌-◌, ◌≤◌, ◌<◌}
use native.Mathlib.Omega.{arith}
use lib.Dec.{leb, eqb, nleb→lt}
use lib.ListN.{length}
use Rattle.numbers.specs.NumberForm.{NumberForm}
use Rattle.machine.specs.Tables.{Table, State}
use Rattle.machine.specs.Calls.{Call, push, replace_row, replace_column, remove, solve, solve_transpose, Answer, ◌or_else◌, refuse_if}
use Rattle.machine.specs.LentData.{data_test}
use Rattle.machine.specs.Machine.{index_tests, refusal, accepted, step_under, step}
use Rattle.machine.specs.Agreement.{Agree, Same}
use Rattle.machine.proofs.Choice.{within_state}
use Rattle.machine.proofs.Updates.{pushed_same, column_replaced_same, row_replaced_same, removed_same}
use Rattle.machine.proofs.Solves.{diagonals_same, solution_same, solution_transpose_same}
use Rattle.machine.proofs.Refusals.{or_else_none, refuse_if_none, refusal_passed}

module _ (N : NumberForm) (E T : N.Value) where
  open N use {Value}

  module _ (n : ℕ) (L U L' U' : Table Value) (hL : (i j : ℕ) → i < n → j < n → L i j ≡ L' i j) (hU : (i j : ℕ) → i ≤ j → j < n → U i j ≡ U' i j) where
    abbrev S : State Value
    S = record { n = n; L = L; U = U }

    abbrev R : State Value
    R = record { n = n; L = L'; U = U' }

    states_agree : Agree S R
    states_agree = record { n = refl; L = hL; U = hU }

    index_tests_same : (c : Call Value) → index_tests N S c ≡ index_tests N R c
    unfolding index_tests
    index_tests_same (push row column d) = refl
    index_tests_same (replace_row r row) = refl
    index_tests_same (replace_column k column) = refl
    index_tests_same (remove r k) = refl
    index_tests_same (solve b) = λ t. refuse_if (not (eqb (length b) n)) 7 or_else diagonals_same N n U U' hU n (omega arith) t
    index_tests_same (solve_transpose b) = λ t. refuse_if (not (eqb (length b) n)) 7 or_else diagonals_same N n U U' hU n (omega arith) t

    -- the data are the call's own
    pub refusal_same : (c : Call Value) → refusal N S c ≡ refusal N R c
    unfolding refusal
    refusal_same c = λ t. index_tests_same c t or_else data_test N c

    -- an index that was not refused
    index_below : (i : ℕ) (number : ℕ) → refuse_if (leb n i) number ≡ none → i < n
    index_below i number e = nleb→lt n i (refuse_if_none (leb n i) number e)

    accepted_same : (c : Call Value) → index_tests N S c ≡ none → Same (accepted N E T S c) (accepted N E T R c)
    unfolding accepted index_tests
    accepted_same (push row column d) e =
        record { answer = refl; solved = refl; after = within_state (suc n) (omega arith) (pushed_same N E T n L U L' U' hL hU row row column column d (λ j a. refl) (λ j a. refl)) }
    accepted_same (replace_row r row) e =
        let h = index_below r 5 (or_else_none _ _ e).0 in
        record { answer = refl; solved = refl; after = within_state n (omega arith) (row_replaced_same N E T n L U L' U' hL hU r row row h (λ j a. refl)) }
    accepted_same (replace_column k column) e =
        let h = index_below k 6 (or_else_none _ _ e).0 in
        record { answer = refl; solved = refl; after = within_state n (omega arith) (column_replaced_same N E T n L U L' U' hL hU k column column h (λ j a. refl)) }
    accepted_same (remove r k) e =
        let o = or_else_none _ _ e in
        let h = removed_same N E T n L U L' U' hL hU r k (index_below r 5 o.0) (index_below k 6 o.1) in
        record { answer = refl; solved = refl; after = within_state (n - 1) (omega arith) h }
    accepted_same (solve b) e = record { answer = refl; solved = solution_same N n U U' hU L L' hL b; after = states_agree }
    accepted_same (solve_transpose b) e = record { answer = refl; solved = solution_transpose_same N n U U' hU L L' hL b; after = states_agree }

    step_same_at : (c : Call Value) → Same (step N E T S c) (step N E T R c)
    unfolding step step_under
    step_same_at c =
        subst (λ (o : Option Answer). Same (step_under N E T (refusal N S c) S c) (step_under N E T o R c)) (refusal_same c) (go (refusal N S c) refl)
      where
        go : (o : Option Answer) → refusal N S c ≡ o → Same (step_under N E T o S c) (step_under N E T o R c)
        go none e = accepted_same c (refusal_passed N S c e).0
        go (some a) e = record { answer = refl; solved = refl; after = states_agree }

  pub refusal_agrees : (S R : State Value) (c : Call Value) → Agree S R → refusal N S c ≡ refusal N R c
  refusal_agrees S R c h =
      subst (λ (n : ℕ). refusal N S c ≡ refusal N (record { n = n; L = R.L; U = R.U }) c) h.n
      (refusal_same S.n S.L S.U R.L R.U h.L h.U c)

  pub step_same : (S R : State Value) (c : Call Value) → Agree S R → Same (step N E T S c) (step N E T R c)
  step_same S R c h =
      subst (λ (n : ℕ). Same (step N E T S c) (step N E T (record { n = n; L = R.L; U = R.U }) c)) h.n
      (step_same_at S.n S.L S.U R.L R.U h.L h.U c)
