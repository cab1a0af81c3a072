-- The data that a call lends to the model, and the test of them: document 02 (m), no NaN goes into a model. Below stand computed lines for which place is named.
use Rattle.std.specs.Prelude.{◌≡◌, refl, true, false, cond, List, [], ◌∷◌, ◌++◌, ℕ, suc, Float}
use Rattle.std.proofs.Math.Option.{Option, none, some}
use Rattle.std.specs.Float.{nan, inf, binary64}
use Rattle.std.specs.Float.Ieee.{neg, of_bits}
use Rattle.numbers.specs.NumberForm.{NumberForm, nearest, ieee, whole, largest, least}
use Rattle.machine.specs.Calls.{Call, push, replace_row, replace_column, remove, solve, solve_transpose, Answer, refused_at}

-- Places are counted from 0 through the row, then the column, then the diagonal that the call lends. Remove lends none, and a right-hand side goes into no model.
abbrev pub lent_data : {A : Type 0} → Call A → List A
lent_data (push row column d) = row ++ (column ++ (d ∷ []))
lent_data (replace_row r row) = row
lent_data (replace_column k column) = column
lent_data (remove r k) = []
lent_data (solve b) = []
lent_data (solve_transpose b) = []

module _ (N : NumberForm) where
  open N use {Value, is_finite}

  -- 23 with the first place, counted from k, where the value is infinite or NaN
  unfoldable pub first_non_finite : ℕ → List Value → Option Answer
  first_non_finite k [] = none
  first_non_finite k (x ∷ xs) = cond (is_finite x) (first_non_finite (suc k) xs) (some (refused_at 23 k))

  abbrev pub data_test : Call Value → Option Answer
  data_test c = first_non_finite 0 (lent_data c)

-- ---- the first place is named, computed

found : Call Float → Option Answer
found = data_test (ieee binary64)

two : Float → Float → List Float
two a b = a ∷ b ∷ []

pub record FirstPlace : Type 0 where
  -- a push at dimension 2: the row has the places 0 and 1, the column 2 and 3, the diagonal 4
  finite : found (push (two largest (neg largest)) (two least (neg least)) (neg (whole 0))) ≡ none
  row_place : found (push (two (whole 1) nan) (two nan nan) nan) ≡ some (refused_at 23 1)
  column_place : found (push (two (whole 1) (whole 1)) (two (inf false) (whole 1)) (inf true)) ≡ some (refused_at 23 2)
  column_last : found (push (two (whole 1) (whole 1)) (two (whole 1) nan) (whole 1)) ≡ some (refused_at 23 3)
  diagonal_place : found (push (two (whole 1) (whole 1)) (two (whole 1) (whole 1)) nan) ≡ some (refused_at 23 4)
  empty_push : found (push [] [] nan) ≡ some (refused_at 23 0)
  -- a replacement: the place in its values
  row_first : found (replace_row 1 (two nan (inf false))) ≡ some (refused_at 23 0)
  row_negative : found (replace_row 0 (two (whole 1) (inf true))) ≡ some (refused_at 23 1)
  column_first : found (replace_column 1 (two (inf true) nan)) ≡ some (refused_at 23 0)
  column_second : found (replace_column 0 (two (whole 1) nan)) ≡ some (refused_at 23 1)
  -- no other call lends data to the model
  none_removed : found (remove 0 0) ≡ none
  right_hand_side : found (solve (two nan nan)) ≡ none
  right_hand_side_transposed : found (solve_transpose (two nan nan)) ≡ none

pub first_place : FirstPlace
unfolding found first_non_finite two nearest neg of_bits
first_place = record {
  finite = refl;
  row_place = refl;
  column_place = refl;
  column_last = refl;
  diagonal_place = refl;
  empty_push = refl;
  row_first = refl;
  row_negative = refl;
  column_first = refl;
  column_second = refl;
  none_removed = refl;
  right_hand_side = refl;
  right_hand_side_transposed = refl;
}
