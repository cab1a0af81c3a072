-- Lists of calls and what becomes of them: which are accepted, what they leave, and their runs over exact fractions with E and T zero. Computed lines stand
-- among the definitions.
use Rattle.std.specs.Prelude.{◌≡◌, cond, List, [], ◌∷◌, ℕ, eqb}
use Rattle.std.proofs.Math.Path.{refl}
use Rattle.std.proofs.Math.Option.{none}
use Rattle.std.proofs.Common.{arith}
use Rattle.numbers.specs.PairStep.{pair_step, first, second}
use Rattle.machine.specs.Tables.{State}
use Rattle.machine.specs.Products.{sum, product}
use Rattle.machine.specs.Forward.{copy_dense_to_row, transform_rows, forward_acts, forward_transform, forward_row, forward_rows, forward}
use Rattle.machine.specs.Backward.{copy_row_to_dense, negligible, trim, clear_dense, backward_skips, backward_transform, backward_row, backward_rows, backward}
use Rattle.machine.specs.Updates.{put_column, put_selected, column_copied, bordered, column_cleared, unit_row}
use Rattle.machine.specs.Updates.{restored_from, restored, pushed, column_replaced, row_replaced_from, row_replaced, column_dropped, removed}
use Rattle.machine.specs.Calls.{Call, push, Answer, done, moved, refused, refused_at, Result, number_of}
use Rattle.machine.specs.LentData.{first_non_finite}
use Rattle.machine.specs.Machine.{index_tests, refusal, accepted, step_under, step, run}
use Rattle.exact.specs.Fractions.{Fraction, ◌≈◌, negative, whole, ratio, Undefined, fractions}

-- ---- which calls are accepted, and what is left

module _ {A : Type 0} where
  -- no call of a run was refused: the number of a success is 0, that of a refusal is not
  abbrev pub AllAccepted : List (Result A) → Type 0
  AllAccepted [] = Unit {0}
  AllAccepted (r ∷ rs) = (number_of r.answer ≡ 0) × AllAccepted rs

  -- the calls of a list that its run did not refuse
  abbrev pub accepted_calls : List (Call A) → List (Result A) → List (Call A)
  accepted_calls [] rs = []
  accepted_calls (c ∷ cs) [] = []
  accepted_calls (c ∷ cs) (r ∷ rs) = cond (eqb (number_of r.answer) 0) (c ∷ accepted_calls cs rs) (accepted_calls cs rs)

  -- the state that a run from S leaves
  abbrev pub last_state : State A → List (Result A) → State A
  last_state S [] = S
  last_state S (r ∷ rs) = last_state r.after rs

-- of four calls the first and the third are accepted
module _ {A : Type 0} (c : ℕ → Call A) (S : ℕ → State A) where
  abbrev result : Answer → ℕ → Result A
  result a i = record { answer = a; solved = []; after = S i }

  abbrev results : List (Result A)
  results = result done 1 ∷ result (refused 7) 1 ∷ result (moved none none) 2 ∷ result (refused_at 9 0) 2 ∷ []

  pub record ListTable : Type 0 where
    accepted : AllAccepted (result done 1 ∷ result (moved none none) 2 ∷ [])
    not_accepted : AllAccepted results → ⊥
    picked : accepted_calls (c 0 ∷ c 1 ∷ c 2 ∷ c 3 ∷ []) results ≡ c 0 ∷ c 2 ∷ []
    last : last_state (S 0) results ≡ S 2

  pub list_table : ListTable
  list_table = record { accepted = (refl, (refl, tt)); not_accepted = λ h. omega arith; picked = refl; last = refl }

-- ---- runs over exact fractions

-- its one pair step is on 1/2 and 1/4: with E = 1 it would be passed over, and with T = 1 both would be taken for zero
abbrev pub small : List (Call Fraction)
small = push [] [] (ratio 1 2) ∷ push (ratio 1 4 ∷ []) (whole 3 ∷ []) (whole 1) ∷ []

module _ (undefined : Undefined) where
  -- the steps of document 01 over exact fractions, with E and T zero
  abbrev pub exact_run : State Fraction → List (Call Fraction) → List (Result Fraction)
  exact_run = run (fractions undefined) (whole 0) (whole 0)

  -- dimension zero
  abbrev pub empty : State Fraction
  empty = record { n = 0; L = λ i j. undefined.absent; U = λ i j. undefined.absent }

  -- Who unfolds `after` unfolds the whole machine.
  unfoldable pub after : List (Call Fraction) → State Fraction
  unfolding run step step_under accepted refusal index_tests first_non_finite pushed bordered column_replaced put_column restored restored_from put_selected row_replaced row_replaced_from column_cleared unit_row removed
      column_dropped column_copied forward copy_dense_to_row forward_rows forward_row forward_acts forward_transform transform_rows
      backward copy_row_to_dense negligible trim backward_rows backward_row clear_dense backward_skips backward_transform product sum pair_step first second
  after calls = last_state empty (exact_run empty calls)

  pub record ToleranceTable : Type 0 where
    multiplier : (after small).L 1 0 ≈ negative (ratio 1 2)
    diagonal : (after small).U 1 1 ≈ negative (ratio 1 2)

  pub tolerance_table : ToleranceTable
  unfolding after
  tolerance_table = record { multiplier = refl; diagonal = refl }
