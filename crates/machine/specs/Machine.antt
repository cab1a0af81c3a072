-- The plain machine: which calls it refuses, what an accepted call leaves, one step, and a run of a list of calls. Below stand computed lines for the order
-- of the refusals, one for each two conditions that can hold at once.
use Rattle.std.specs.Prelude.{◌≡◌, refl, true, not, ◌&&◌, cond, List, [], ◌∷◌, ℕ, suc, ◌-◌, leb, eqb, length, Float}
use Rattle.std.proofs.Math.Option.{Option, none, some}
use Rattle.std.specs.Float.{nan, inf, binary64}
use Rattle.std.specs.Float.Ieee.{eq, of_bits}
use Rattle.numbers.specs.NumberForm.{NumberForm, nearest, ieee, whole}
use Rattle.machine.specs.Tables.{State, state_of}
use Rattle.machine.specs.Updates.{pushed, column_replaced, row_replaced, removed}
use Rattle.machine.specs.Solves.{solution, solution_transpose, diagonals, diagonal}
use Rattle.machine.specs.Calls.{Call, push, replace_row, replace_column, remove, solve, solve_transpose, Answer, done, moved, refused, refused_at, Result, ◌or_else◌, refuse_if, given}
use Rattle.machine.specs.LentData.{first_non_finite, data_test}

-- ---- indices and lengths, at dimension n

-- push: 7 for the lengths of row and column
abbrev pub push_tests : ℕ → ℕ → ℕ → Option Answer
push_tests n row column = refuse_if (not (eqb row n && eqb column n)) 7

-- replace row or column: `outside`, which is 5 or 6, for the index, then 7 for the length of the values
abbrev pub replacement_tests : ℕ → ℕ → Answer → ℕ → Option Answer
replacement_tests n index outside values = cond (leb n index) (some outside) none or_else refuse_if (not (eqb values n)) 7

-- remove: 5 for the row, then 6 for the column
abbrev pub remove_tests : ℕ → ℕ → ℕ → Option Answer
remove_tests n row column = refuse_if (leb n row) 5 or_else refuse_if (leb n column) 6

-- solves: 7 for the length of the right-hand side
abbrev pub rhs_test : ℕ → ℕ → Option Answer
rhs_test n rhs = refuse_if (not (eqb rhs n)) 7

module _ (N : NumberForm) where
  open N use {Value}

  -- Push: 7. Replace row: 5, 7. Replace column: 6, 7. Remove: 5, 6. Solves: 7, then the diagonal upward.
  unfoldable pub index_tests : State Value → Call Value → Option Answer
  index_tests S (push row column d) = push_tests S.n (length row) (length column)
  index_tests S (replace_row r row) = replacement_tests S.n r (refused 5) (length row)
  index_tests S (replace_column k column) = replacement_tests S.n k (refused 6) (length column)
  index_tests S (remove r k) = remove_tests S.n r k
  index_tests S (solve b) = rhs_test S.n (length b) or_else diagonals N S.U S.n
  index_tests S (solve_transpose b) = rhs_test S.n (length b) or_else diagonals N S.U S.n

  -- after 7, 23 for the data of a push or a replacement
  unfoldable pub refusal : State Value → Call Value → Option Answer
  refusal S c = index_tests S c or_else data_test N c

module _ (N : NumberForm) (E T : N.Value) where
  open N use {Value}

  -- Remove answers p = n − 1 as moved row if r ≠ p, as moved column if k ≠ p. Both solves leave n, L and U standing.
  unfoldable pub accepted : State Value → Call Value → Result Value
  accepted S (push row column d) =
      record { answer = done; solved = []; after = state_of (suc S.n) (pushed N E T S.n S.L S.U row column d) }
  accepted S (replace_row r row) =
      record { answer = done; solved = []; after = state_of S.n (row_replaced N E T S.n S.L S.U r row) }
  accepted S (replace_column k column) =
      record { answer = done; solved = []; after = state_of S.n (column_replaced N E T S.n S.L S.U k column) }
  accepted S (remove r k) =
      let p = S.n - 1 in
      record {
        answer = moved (cond (eqb r p) none (some p)) (cond (eqb k p) none (some p));
        solved = [];
        after = state_of p (removed N E T p S.L S.U r k);
      }
  accepted S (solve b) = record { answer = done; solved = solution N S b; after = S }
  accepted S (solve_transpose b) = record { answer = done; solved = solution_transpose N S b; after = S }

  -- a call under a refusal: a refusal changes nothing
  unfoldable pub step_under : Option Answer → State Value → Call Value → Result Value
  step_under none S c = accepted S c
  step_under (some a) S c = record { answer = a; solved = given c; after = S }

  unfoldable pub step : State Value → Call Value → Result Value
  step S c = step_under (refusal N S c) S c

  -- what each call of a list leaves
  unfoldable pub run : State Value → List (Call Value) → List (Result Value)
  run S [] = []
  run S (c ∷ cs) = step S c ∷ run (step S c).after cs

-- ---- the order of the refusals, computed

-- dimension 3 with that diagonal; no refusal reads anything else of the factors
with_diagonal : Float → Float → Float → State Float
with_diagonal a b c = record { n = 3; L = λ i j. nan; U = diagonal a b c }

refuses : State Float → Call Float → Option Answer
refuses = refusal (ieee binary64)

sound : State Float
unfolding with_diagonal
sound = with_diagonal (whole 1) (whole 2) (whole 3)

ones : List Float
ones = whole 1 ∷ whole 1 ∷ whole 1 ∷ []

-- a loose clamp at place 1
loose : List Float
loose = whole 1 ∷ nan ∷ inf true ∷ []

pub record RefusalOrder : Type 0 where
  push_accepted : refuses sound (push ones ones (whole 1)) ≡ none
  push_row : refuses sound (push [] ones (whole 1)) ≡ some (refused 7)
  push_column : refuses sound (push ones [] (whole 1)) ≡ some (refused 7)
  push_length_before_data : refuses sound (push (nan ∷ []) loose nan) ≡ some (refused 7)
  push_data : refuses sound (push ones loose (whole 1)) ≡ some (refused_at 23 4)
  push_diagonal : refuses sound (push ones ones nan) ≡ some (refused_at 23 6)
  row_accepted : refuses sound (replace_row 2 ones) ≡ none
  row_first : refuses sound (replace_row 3 []) ≡ some (refused 5)
  row_length : refuses sound (replace_row 2 []) ≡ some (refused 7)
  row_index_before_data : refuses sound (replace_row 3 loose) ≡ some (refused 5)
  row_length_before_data : refuses sound (replace_row 2 (nan ∷ [])) ≡ some (refused 7)
  row_data : refuses sound (replace_row 2 loose) ≡ some (refused_at 23 1)
  column_accepted : refuses sound (replace_column 2 ones) ≡ none
  column_first : refuses sound (replace_column 3 []) ≡ some (refused 6)
  column_length : refuses sound (replace_column 2 []) ≡ some (refused 7)
  column_index_before_data : refuses sound (replace_column 3 loose) ≡ some (refused 6)
  column_length_before_data : refuses sound (replace_column 2 (nan ∷ [])) ≡ some (refused 7)
  column_data : refuses sound (replace_column 2 loose) ≡ some (refused_at 23 1)
  remove_accepted : refuses sound (remove 2 2) ≡ none
  remove_row_first : refuses sound (remove 3 3) ≡ some (refused 5)
  remove_column : refuses sound (remove 2 3) ≡ some (refused 6)
  solve_accepted : refuses sound (solve ones) ≡ none
  solve_length_first : refuses (with_diagonal (whole 0) nan nan) (solve []) ≡ some (refused 7)
  transpose_length_first : refuses (with_diagonal (whole 0) nan nan) (solve_transpose []) ≡ some (refused 7)
  -- right-hand sides still take every double
  solve_any : refuses sound (solve loose) ≡ none
  transpose_any : refuses sound (solve_transpose loose) ≡ none

pub refusal_order : RefusalOrder
unfolding refuses refusal index_tests first_non_finite diagonals with_diagonal sound ones loose nearest eq of_bits
refusal_order = record {
  push_accepted = refl;
  push_row = refl;
  push_column = refl;
  push_length_before_data = refl;
  push_data = refl;
  push_diagonal = refl;
  row_accepted = refl;
  row_first = refl;
  row_length = refl;
  row_index_before_data = refl;
  row_length_before_data = refl;
  row_data = refl;
  column_accepted = refl;
  column_first = refl;
  column_length = refl;
  column_index_before_data = refl;
  column_length_before_data = refl;
  column_data = refl;
  remove_accepted = refl;
  remove_row_first = refl;
  remove_column = refl;
  solve_accepted = refl;
  solve_length_first = refl;
  transpose_length_first = refl;
  solve_any = refl;
  transpose_any = refl;
}
