-- How many pair steps Forward, Backward, the four updates and a call make, whether or not a multiplier is zero, and how many they make at most. Below stand
-- computed lines (CountTable). What a call makes of the factors is defined without these numbers.
use Rattle.std.specs.Prelude.{◌≡◌, refl, cond, List, [], ◌∷◌, ℕ, zero, suc, ◌+◌, ◌-◌, ◌*◌, ◌^◌, ltb, eqb, Float}
use Rattle.std.proofs.Math.Option.{Option, none, some}
use Rattle.std.specs.Float.{nan, binary64}
use Rattle.std.specs.Float.Ieee.{neg}
use Rattle.numbers.specs.NumberForm.{NumberForm, ieee, double, whole}
use Rattle.numbers.specs.Tolerances.{managed_epsilon, managed_tiny}
use Rattle.machine.specs.Tables.{Table, State, Work}
use Rattle.machine.specs.Products.{entry}
use Rattle.machine.specs.Forward.{forward_acts, forward_rows}
use Rattle.machine.specs.Backward.{copy_row_to_dense, trim, backward_skips, backward_rows, backward}
use Rattle.machine.specs.Updates.{put_column, put_selected, bordered, column_product, last_column_read, column_taken, column_moved, unit_row, column_dropped}
use Rattle.machine.specs.Calls.{Call, push, replace_row, replace_column, remove, solve, solve_transpose, Answer}
use Rattle.machine.specs.Machine.{refusal}
use Rattle.machine.specs.BenchStates.{carried_out, call, empty, single, P, square, M, M', identity}

module _ (N : NumberForm) (E : N.Value) where
  open N use {Value}

  -- ---- one row

  -- Forward makes a pair step in a row that its guard lets act
  unfoldable pub forward_row_count : ℕ → Work Value → ℕ
  forward_row_count row S = cond (forward_acts N E (S.U row row) (S.y row)) 1 0

  -- Backward makes one in a row that it does not skip
  unfoldable pub backward_row_count : ℕ → ℕ → Work Value → ℕ
  backward_row_count selected row S = cond (backward_skips N E (S.v selected) (S.v row)) 0 1

module _ (N : NumberForm) (E T : N.Value) where
  open N use {Value}

  -- ---- Forward and Backward

  -- the pair steps of the first k rows from `start` upward
  unfoldable pub forward_rows_count : ℕ → ℕ → ℕ → ℕ → Work Value → ℕ
  forward_rows_count start last columns zero S = 0
  forward_rows_count start last columns (suc k) S =
      forward_rows_count start last columns k S + forward_row_count N E (start + k) (forward_rows N E T start last columns k S)

  -- those of Forward (first, last, columns, y)
  unfoldable pub forward_count : ℕ → ℕ → ℕ → Work Value → ℕ
  forward_count start last columns S = forward_rows_count start last columns (last - start) S

  -- the pair steps of the rows selected − 1 down to selected − k
  unfoldable pub backward_rows_count : ℕ → ℕ → ℕ → Work Value → ℕ
  backward_rows_count selected columns zero S = 0
  backward_rows_count selected columns (suc k) S =
      backward_rows_count selected columns k S + backward_row_count N E selected (selected - suc k) (backward_rows N E T selected columns k S)

  -- those of Backward (first, selected, columns, dense, v), once it is trimmed
  unfoldable pub backward_count : ℕ → ℕ → ℕ → Work Value → ℕ
  backward_count start selected columns S = backward_rows_count selected columns (selected - start) (copy_row_to_dense selected columns S)

  -- ---- the triangle restored: Backward's and Forward's

  unfoldable pub restored_from_count : ℕ → ℕ → ℕ → Work Value → ℕ
  restored_from_count k selected columns S =
      backward_count (suc k) selected columns S + forward_count k selected columns (put_selected k selected (backward N E T (suc k) selected columns S))

  -- the same with Backward trimming from `last`
  unfoldable pub restored_count : ℕ → ℕ → ℕ → Work Value → ℕ
  restored_count k last columns S = restored_from_count k (trim N E (suc k) last S.v) columns S

  -- ---- the updates

  -- push: Forward's
  unfoldable pub pushed_count : ℕ → Table Value → Table Value → List Value → List Value → Value → ℕ
  pushed_count n L U row column d = forward_count 0 n (suc n) (bordered N n L U row column d)

  -- replace column k: none for the last column, and otherwise those that restore the triangle
  unfoldable pub column_replaced_count : ℕ → Table Value → Table Value → ℕ → List Value → ℕ
  column_replaced_count n L U k column = cond (ltb (suc k) n) (restored_count k (n - 1) n (put_column k (column_product N n L U column))) 0

  -- replace row r: as a first push at n = 1, and otherwise Backward's and Forward's
  unfoldable pub row_replaced_from_count : ℕ → Table Value → Table Value → ℕ → List Value → ℕ → ℕ
  row_replaced_from_count n L U r row selected =
      let S = column_taken N r L U in
      backward_count 0 selected n S + forward_count 0 selected n (unit_row N selected r row (backward N E T 0 selected n S))

  unfoldable pub row_replaced_count : ℕ → Table Value → Table Value → ℕ → List Value → ℕ
  row_replaced_count n L U r row =
      cond (eqb n 1) (pushed_count 0 L U [] [] (entry N row 0)) (row_replaced_from_count n L U r row (trim N E 0 (n - 1) (λ i. L i r)))

  -- remove r, k, with p = n − 1: those that restore the triangle, unless k is the last column, and those of the Backward that follows
  unfoldable pub column_dropped_count : ℕ → Table Value → Table Value → ℕ → ℕ
  column_dropped_count p L U k = cond (ltb k p) (restored_count k p p (put_column k (last_column_read N p L U))) 0

  unfoldable pub removed_count : ℕ → Table Value → Table Value → ℕ → ℕ → ℕ
  removed_count p L U r k =
      let D = column_dropped N E T p L U k in
      column_dropped_count p L U k + backward_count 0 p p (column_moved N p r D.L D.U)

  -- ---- a call

  -- a solve makes none
  unfoldable pub accepted_count : State Value → Call Value → ℕ
  accepted_count S (push row column d) = pushed_count S.n S.L S.U row column d
  accepted_count S (replace_row r row) = row_replaced_count S.n S.L S.U r row
  accepted_count S (replace_column k column) = column_replaced_count S.n S.L S.U k column
  accepted_count S (remove r k) = removed_count (S.n - 1) S.L S.U r k
  accepted_count S (solve b) = 0
  accepted_count S (solve_transpose b) = 0

  -- a call under a refusal: a refused one makes none
  unfoldable pub count_under : Option Answer → State Value → Call Value → ℕ
  count_under none S c = accepted_count S c
  count_under (some a) S c = 0

  unfoldable pub count : State Value → Call Value → ℕ
  count S c = count_under (refusal N S c) S c

-- ---- at most (proofs/CountLimits.antt)

-- For dimension n before the call it is at most n for push, 2 × (n − 1 − k) for replacing column k, 2 × (n − 1) for a row and 3 × (n − 1) for remove.
abbrev pub count_limit : {A : Type 0} → ℕ → Call A → ℕ
count_limit n (push row column d) = n
count_limit n (replace_row r row) = 2 * (n - 1)
count_limit n (replace_column k column) = 2 * (n - 1 - k)
count_limit n (remove r k) = 3 * (n - 1)
count_limit n (solve b) = 0
count_limit n (solve_transpose b) = 0

-- A sharper limit, which the lines below reach: to restore the triangle, Backward has a row less than Forward, and remove restores it from column k on.
abbrev pub count_most : {A : Type 0} → ℕ → Call A → ℕ
count_most n (push row column d) = n
count_most n (replace_row r row) = 2 * (n - 1)
count_most n (replace_column k column) = 2 * (n - 1 - k) - 1
count_most n (remove r k) = 2 * (n - 1 - k) - 1 + (n - 1)
count_most n (solve b) = 0
count_most n (solve_transpose b) = 0

-- ---- computed

-- the pair steps that a call makes under the managed tolerances where nothing is refused
unfoldable pub carried_out_steps : State Float → Call Float → ℕ
unfolding carried_out accepted_count pushed_count column_replaced_count row_replaced_count row_replaced_from_count removed_count column_dropped_count restored_count restored_from_count
    forward_count forward_rows_count forward_row_count backward_count backward_rows_count backward_row_count
carried_out_steps = accepted_count (ieee binary64) (managed_epsilon binary64) (managed_tiny binary64)

-- the pair steps of a call under the managed tolerances
unfoldable pub pair_steps : State Float → Call Float → ℕ
unfolding call carried_out_steps count count_under
pair_steps = count (ieee binary64) (managed_epsilon binary64) (managed_tiny binary64)

-- a call that makes as many as the sharper limit allows
Most : State Float → Call Float → Type 0
unfolding pair_steps
Most S c = pair_steps S c ≡ count_most S.n c

pub record CountTable : Type 0 where
  -- the bench table's calls
  first_push : pair_steps empty (push [] [] (whole 2)) ≡ 0
  P_is : pair_steps (single (whole 2)) (push (whole 4 ∷ []) (whole 6 ∷ []) (whole 1)) ≡ 1
  P_solve : pair_steps P (solve (whole 8 ∷ whole 5 ∷ [])) ≡ 0
  P_transpose_solve : pair_steps P (solve_transpose (whole 6 ∷ whole 7 ∷ [])) ≡ 0
  P_replace_column : pair_steps P (replace_column 0 (whole 1 ∷ whole 8 ∷ [])) ≡ 1
  P_replace_row : pair_steps P (replace_row 0 (whole 1 ∷ whole 1 ∷ [])) ≡ 1
  P_remove : pair_steps P (remove 1 1) ≡ 1
  zero_diagonal : pair_steps (single (neg (whole 0))) (solve (whole 5 ∷ [])) ≡ 0
  -- three rows, with rows and columns that move
  M_replace_row : pair_steps M (replace_row 1 (neg (whole 2) ∷ neg (whole 2) ∷ whole 3 ∷ [])) ≡ 4
  M_replace_column : pair_steps M (replace_column 0 (neg (whole 2) ∷ neg (whole 2) ∷ whole 3 ∷ [])) ≡ 3
  M_remove_first : pair_steps M (remove 0 0) ≡ 1
  M_remove_last_row : pair_steps M (remove 2 1) ≡ 1
  -- Forward passes an entry that is zero, and a NaN; Backward skips row 2 of four, and not a NaN
  row_passed : pair_steps (single (whole 2)) (push (whole 0 ∷ []) (whole 6 ∷ []) (whole 1)) ≡ 0
  forward_nan : carried_out_steps (single (whole 2)) (push (nan ∷ []) (whole 6 ∷ []) (whole 1)) ≡ 0
  row_skipped : pair_steps (identity 4) (replace_column 0 (whole 1 ∷ whole 1 ∷ whole 0 ∷ whole 1 ∷ [])) ≡ 2
  backward_nan : carried_out_steps (identity 3) (replace_column 0 (whole 1 ∷ nan ∷ whole 1 ∷ [])) ≡ 1
  -- a pair step counts whether or not its multiplier is zero: an exchange with a zero, in Forward and in Backward, and two numbers within T
  zero_exchanged : pair_steps (single (whole 0)) (push (whole 1 ∷ []) (whole 1 ∷ []) (whole 1)) ≡ 1
  zero_exchanged_backward : pair_steps (identity 2) (remove 0 1) ≡ 1
  both_tiny : pair_steps (single (whole 0)) (push (double 1 (2 ^ 80) ∷ []) (whole 1 ∷ []) (whole 1)) ≡ 1
  -- rows that are trimmed do not count
  row_trimmed : pair_steps M' (replace_row 1 (whole 4 ∷ whole 4 ∷ neg (whole 4) ∷ [])) ≡ 2
  column_trimmed : pair_steps (identity 3) (replace_column 0 (whole 1 ∷ whole 1 ∷ whole 0 ∷ [])) ≡ 1
  -- a refused call makes none, where it would make one if it were accepted
  refused_row : pair_steps (single (whole 2)) (push (whole 4 ∷ []) [] (whole 1)) ≡ 0
  refused_index : pair_steps P (remove 2 1) ≡ 0
  -- the sharper limit is reached
  most_push : Most (identity 2) (push (whole 1 ∷ whole 1 ∷ []) (whole 0 ∷ whole 0 ∷ []) (whole 1))
  most_row : Most M (replace_row 1 (neg (whole 2) ∷ neg (whole 2) ∷ whole 3 ∷ []))
  most_column : Most M (replace_column 0 (neg (whole 2) ∷ neg (whole 2) ∷ whole 3 ∷ []))
  most_last_column : Most M (replace_column 2 (neg (whole 2) ∷ neg (whole 2) ∷ whole 3 ∷ []))
  most_removed : Most M' (remove 0 0)
  most_removed_inner : Most M' (remove 1 1)
  most_removed_last : Most M' (remove 0 2)

pub count_table : CountTable
unfolding call carried_out_steps pair_steps Most empty single P square M M' identity
count_table = record {
  first_push = refl;
  P_is = refl;
  P_solve = refl;
  P_transpose_solve = refl;
  P_replace_column = refl;
  P_replace_row = refl;
  P_remove = refl;
  zero_diagonal = refl;
  M_replace_row = refl;
  M_replace_column = refl;
  M_remove_first = refl;
  M_remove_last_row = refl;
  row_passed = refl;
  forward_nan = refl;
  row_skipped = refl;
  backward_nan = refl;
  zero_exchanged = refl;
  zero_exchanged_backward = refl;
  both_tiny = refl;
  row_trimmed = refl;
  column_trimmed = refl;
  refused_row = refl;
  refused_index = refl;
  most_push = refl;
  most_row = refl;
  most_column = refl;
  most_last_column = refl;
  most_removed = refl;
  most_removed_inner = refl;
  most_removed_last = refl;
}
