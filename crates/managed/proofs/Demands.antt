-- Demands 1 and 3 and the sentences on the counter hold, at every format with the managed tolerances.
use mathlib.Core.Path.{◌≡◌, refl, sym, ap, subst, ◌∙◌}
use mathlib.Core.Bool.{Bool, true, false}
use mathlib.Core.Option.{Option, none, some}
use Prim.Native.Nat.{ℕ}
use lib.Dec.{T as So}
use lib.Ieee.{Format}
use lib.ListN.{length}
use borrow.Author.Tests.{eq-eqb}
use Rattle.numbers.specs.NumberForm.{NumberForm, ieee}
use Rattle.numbers.specs.Tolerances.{managed_epsilon, managed_tiny}
use Rattle.machine.specs.Tables.{Table}
use Rattle.machine.specs.Solves.{diagonals}
use Rattle.machine.specs.Calls.{Answer, ◌or_else◌}
use Rattle.machine.specs.LentData.{first_non_finite}
use Rattle.machine.specs.Machine.{rhs_test, index_tests}
use Rattle.machine.proofs.Diagonals.{all_sound, none_if_sound, first_bad}
use Rattle.machine.proofs.Refusals.{or_else_last}
use Rattle.storage.specs.Views.{view_u}
use Rattle.managed.specs.Instance.{state_value}
use Rattle.managed.specs.Refusals.{storage_tests, refusal_at}
use Rattle.managed.specs.StorageAnswers.{AdoptionAnswer, adopted, not_adopted, adopted_under}
use Rattle.managed.specs.Demands.{RefusedByDiagonal, Demand1, Counting, Demand3, StorageDemand1}
use Rattle.managed.proofs.StorageTests.{storage_passes}
use Rattle.managed.proofs.Refusals.{storage_passed}
use Rattle.managed.proofs.Accepted.{accepted_same, accepted_number}
use Rattle.managed.proofs.Refused.{refused_untouched, refused_number, storage_numbered}
use Rattle.managed.proofs.Counted.{steps_at_most, steps_within_most, accepted_counted, refused_not_counted}
use Rattle.managed.proofs.ListClaim.{list_claim}

-- ---- a solve

-- the search along the diagonal
by_diagonal : (N : NumberForm) (U : Table N.Value) (n : ℕ) (o : Option Answer) → o ≡ diagonals N U n → RefusedByDiagonal N U n o
by_diagonal N U n o e = record {
  accepted_if = λ h. e ∙ none_if_sound N U n h;
  only_if = λ h. all_sound N U n (sym e ∙ h);
  first_named = λ a h. let f = first_bad N U n a (sym e ∙ h) in (f.i, f.below, f.named, f.sound_before);
}

-- a solve whose storage and right-hand side pass is refused by the diagonals alone
diagonals_decide : (storage : Option Answer) (n rhs : ℕ) (d : Option Answer) → storage ≡ none → rhs ≡ n → ((storage or_else none) or_else ((rhs_test n rhs or_else d) or_else none)) ≡ d
diagonals_decide storage n rhs d passed long = rw (passed, eq-eqb rhs n long) (or_else_last d none refl)

module _ (F : Format) where
  pub demand_1 : Demand1 F
  unfolding refusal_at index_tests first_non_finite
  demand_1 = record {
    carried_out = λ c s t r o e. (accepted_same (ieee F) (managed_epsilon F) (managed_tiny F) o e, accepted_number (ieee F) (managed_epsilon F) (managed_tiny F) o e);
    refused = λ c s t r o a e.
        let h = refused_untouched (ieee F) (managed_epsilon F) (managed_tiny F) o a e in
        (h.0, refused_number (ieee F) (managed_epsilon F) (managed_tiny F) o a e, h.1, h.2);
    solve_refused = λ v l u b storage long. by_diagonal (ieee F) (view_u (ieee F) v.capacity u) v.n _ (diagonals_decide _ v.n (length b) _ storage long);
    transpose_solve_refused = λ v l u b storage long. by_diagonal (ieee F) (view_u (ieee F) v.capacity u) v.n _ (diagonals_decide _ v.n (length b) _ storage long);
  }

  pub counting : Counting F
  counting c s t r o = record {
    carried_out = accepted_counted (ieee F) (managed_epsilon F) (managed_tiny F) o;
    refused = refused_not_counted (ieee F) (managed_epsilon F) (managed_tiny F) o;
    at_most = steps_at_most (ieee F) (managed_epsilon F) (managed_tiny F) o;
    within_most = steps_within_most (ieee F) (managed_epsilon F) (managed_tiny F) o;
  }

  pub demand_3 : Demand3 F
  demand_3 = list_claim (ieee F) (managed_epsilon F) (managed_tiny F)

-- ---- lengths and adoption

is_adopted : AdoptionAnswer → Bool
is_adopted (adopted v) = true
is_adopted (not_adopted a) = false

-- what is adopted was refused nothing
none_if_adopted : (o : Option Answer) (n c : ℕ) → adopted_under o n c ≡ adopted (state_value n c 0) → o ≡ none
unfolding is_adopted
none_if_adopted none n c e = refl
none_if_adopted (some a) n c e = absurd (subst So (ap is_adopted (sym e)) tt)

pub storage_demand_1 : StorageDemand1
storage_demand_1 = record {
  lengths_given = λ c e. rw e refl;
  lengths_refused = λ c e. rw e refl;
  adopted_if = λ n c l u hn hc hl hu. ap (λ (o : Option Answer). adopted_under o n c) (sym (storage_passes n c l u hn hc hl hu));
  adopted_only_if = λ n c l u e.
      let p = storage_passed n c l u (none_if_adopted (storage_tests n c l u) n c e) in
      (p.dimension, p.size, p.L, p.U);
  if_not_adopted = λ n c l u a e. (ap (λ (o : Option Answer). adopted_under o n c) e, storage_numbered n c l u a e);
}
