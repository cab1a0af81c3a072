-- The outcome of each solve that is not refused, from what was written to the right-hand side and to the work behind L.
use mathlib.Core.Path.{◌≡◌, refl, sym, ap, ◌∙◌}
use mathlib.Core.List.{List}
use mathlib.Core.Option.{none}
use Prim.Native.Nat.{ℕ, ◌+◌, ◌-◌, ◌*◌, ◌≤◌, ◌<◌}
use native.Mathlib.Decide.{dec_lt}
use native.Mathlib.Omega.{arith}
use lib.ListN.{length}
use Rattle.std.proofs.Common.{◌++◌, length-append}
use Rattle.std.proofs.lemmas.List.{get_or_append_left, get_or-append-add}
use Rattle.numbers.specs.NumberForm.{NumberForm}
use Rattle.machine.specs.Tables.{Vector, tabulate}
use Rattle.machine.specs.Solves.{solution_vector, solution, solution_transpose_vector, solution_transpose}
use Rattle.machine.specs.Calls.{solve, solve_transpose, done}
use Rattle.machine.specs.Machine.{accepted}
use Rattle.machine.specs.Counts.{accepted_count}
use Rattle.machine.proofs.Choice.{listed}
use Rattle.machine.specs.Products.{entry}
use Rattle.machine.proofs.Solves.{solution_same, solution_transpose_same}
use Rattle.storage.specs.Places.{l_index, WorkPlace}
use Rattle.storage.specs.Views.{view_l, view_u, state_at, Kept}
use Rattle.storage.proofs.Places.{l_index_within}
use Rattle.ranges.specs.Written.{Written}
use Rattle.managed.specs.Instance.{StateValue, lent_to_solve}
use Rattle.managed.specs.Refusals.{refusal_at}
use Rattle.managed.specs.Outcome.{report, Outcome}
use Rattle.managed.proofs.Outcomes.{outcome_solved}
use Rattle.solves.specs.InPlace.{WrittenInPlace}

module _ (N : NumberForm) where
  open N use {Value, absent}

  -- a vector that is written whole
  whole : {n : ℕ} {f : Vector Value} {b b' : List Value} → length b ≡ n → Written N (λ i. i) n f b b' → b' ≡ tabulate n f
  whole {n} {f} {b} {b'} e h =
      let long : length b' ≡ n = h.kept.long ∙ e in
      listed b' f absent (λ i l. h.value i (omega arith)) ∙ ap (λ (k : ℕ). tabulate k f) long

  -- L's storage is L's entries, and behind them the solve work
  module _ (v : StateValue) (entries work u : List Value) (long_l : length entries ≡ v.capacity * v.capacity) (within : v.n ≤ v.capacity) where
    active : (i j : ℕ) → i < v.n → j < v.n → view_l N v.capacity entries i j ≡ view_l N v.capacity (entries ++ work) i j
    active i j hi hj = sym (get_or_append_left entries work absent (l_index v.capacity i j) (omega (arith, l_index_within v.capacity i j (omega arith) (omega arith))))

    work_kept : {work' : List Value} → Kept N (λ q. q < v.n) work work' → Kept N (WorkPlace v.capacity v.n) (entries ++ work) (entries ++ work')
    work_kept {work'} h = record {
      long = omega (arith, length-append {A = Value}, h.long);
      same = λ q free. elim (dec_lt q (length entries)) [
        | yes a ↦ get_or_append_left entries work' absent q a ∙ sym (get_or_append_left entries work absent q a)
        | no a ↦
            let e : length entries + (q - length entries) ≡ q = omega arith in
            ap (entry N (entries ++ work')) (sym e) ∙ get_or-append-add entries work' (q - length entries) absent
            ∙ h.same (q - length entries) (λ below. free (q - length entries, below, omega arith))
            ∙ sym (get_or-append-add entries work (q - length entries) absent) ∙ ap (entry N (entries ++ work)) e
      ];
    }

    module _ (E T : Value) (b : List Value) {work' b' : List Value} (long : length b ≡ v.n) where
      pub solve_outcome : refusal_at N (lent_to_solve v (entries ++ work) u) (solve b) ≡ none
          → WrittenInPlace N v.n (solution_vector N (state_at N v.capacity v.n entries u) b) work b work' b'
          → Outcome N E T (solve b) (lent_to_solve v (entries ++ work) u) (lent_to_solve v (entries ++ work') u) (report done b' 0)
      unfolding accepted accepted_count solution
      solve_outcome e h =
          outcome_solved N E T v (entries ++ work) u (work_kept h.1) (solve b) refl e within refl
          (whole long h.0 ∙ solution_same N v.n (view_u N v.capacity u) (view_u N v.capacity u) (λ i j _ _. refl) _ _ active b) refl refl

      pub transpose_outcome : refusal_at N (lent_to_solve v (entries ++ work) u) (solve_transpose b) ≡ none
          → WrittenInPlace N v.n (solution_transpose_vector N (state_at N v.capacity v.n entries u) b) work b work' b'
          → Outcome N E T (solve_transpose b) (lent_to_solve v (entries ++ work) u) (lent_to_solve v (entries ++ work') u) (report done b' 0)
      unfolding accepted accepted_count solution_transpose
      transpose_outcome e h =
          outcome_solved N E T v (entries ++ work) u (work_kept h.1) (solve_transpose b) refl e within refl
          (whole long h.0 ∙ solution_transpose_same N v.n (view_u N v.capacity u) (view_u N v.capacity u) (λ i j _ _. refl) _ _ active b) refl refl
