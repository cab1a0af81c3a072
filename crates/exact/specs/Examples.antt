-- Worked examples, computed: the bench table's P over fractions, what its updates make of it, small numbers, a singular A, remove's moves, and a list with
-- refused calls. Each holds whatever stands for undefined values.
use Rattle.std.specs.Prelude.{◌≡◌, refl, List, [], ◌∷◌, ◌++◌}
use Rattle.std.proofs.Math.Option.{some}
use Rattle.machine.specs.Calls.{Call, push, replace_row, replace_column, remove, Answer, done, moved, refused, Result}
use Rattle.exact.specs.Fractions.{Fraction, ◌≈◌, negative, whole, ratio, Undefined, fractions}
use Rattle.exact.specs.Matrix.{Matrix, rows_of, updated, updated_by, matrix_of}
use Rattle.exact.specs.Runs.{accepted_calls, exact_run, small, empty, after}
use Rattle.exact.specs.Factored.{upper_triangle, factor_times}

-- entries that are equal as fractions
abbrev Equal : List Fraction → List Fraction → Type 0
Equal [] [] = Unit {0}
Equal [] (y ∷ ys) = ⊥
Equal (x ∷ xs) [] = ⊥
Equal (x ∷ xs) (y ∷ ys) = (x ≈ y) × Equal xs ys

abbrev EqualRows : List (List Fraction) → List (List Fraction) → Type 0
EqualRows [] [] = Unit {0}
EqualRows [] (y ∷ ys) = ⊥
EqualRows (x ∷ xs) [] = ⊥
EqualRows (x ∷ xs) (y ∷ ys) = Equal x y × EqualRows xs ys

-- the rows a, b; c, d
abbrev rows : Fraction → Fraction → Fraction → Fraction → List (List Fraction)
rows a b c d = (a ∷ b ∷ []) ∷ (c ∷ d ∷ []) ∷ []

abbrev answers : List (Result Fraction) → List Answer
answers [] = []
answers (r ∷ rs) = r.answer ∷ answers rs

-- ---- lists of calls

abbrev pub P : List (Call Fraction)
P = push [] [] (whole 2) ∷ push (whole 4 ∷ []) (whole 6 ∷ []) (whole 1) ∷ []

abbrev pub singular : List (Call Fraction)
singular = push [] [] (whole 1) ∷ push (whole 2 ∷ []) (whole 3 ∷ []) (whole 6) ∷ []

-- P with a third row and column, and then row 0 and column 1 removed: row 2 moves to 0, and column 2 to 1
abbrev pub moves : List (Call Fraction)
moves = P ++ push (whole 3 ∷ whole 8 ∷ []) (whole 5 ∷ negative (whole 7) ∷ []) (whole 9) ∷ remove 0 1 ∷ []

-- P with calls among its own that are refused: a row out of bounds, two lengths that don't match, and a column out of bounds
abbrev pub interrupted : List (Call Fraction)
interrupted =
    push [] [] (whole 2)
    ∷ replace_row 1 (whole 9 ∷ [])
    ∷ push [] [] (whole 9)
    ∷ push (whole 4 ∷ []) (whole 6 ∷ []) (whole 1)
    ∷ replace_column 0 (whole 9 ∷ [])
    ∷ remove 0 2
    ∷ []

-- ---- what they leave

module _ (undefined : Undefined) where
  spelled : List (Call Fraction) → Matrix Fraction
  unfolding matrix_of updated_by updated
  spelled calls = matrix_of (fractions undefined) calls

  -- what calls leave: L, U with zeros below its diagonal, which is also L × A, and A
  pub record Leaves (calls : List (Call Fraction)) (l u a : List (List Fraction)) : Type 0 where
    L : EqualRows (rows_of (after undefined calls).n (after undefined calls).L) l
    U : EqualRows (rows_of (after undefined calls).n (upper_triangle (after undefined calls).U)) u
    A : EqualRows (rows_of (spelled calls).n (spelled calls).entries) a
    LA : EqualRows (rows_of (after undefined calls).n (factor_times undefined (after undefined calls).n (after undefined calls).L (spelled calls).entries)) u

  pub record ExactTable : Type 0 where
    -- the bench table's rows
    P_leaves : Leaves P
        (rows (whole 0) (whole 1) (whole 1) (negative (ratio 1 2))) (rows (whole 4) (whole 1) (whole 0) (ratio 11 2)) (rows (whole 2) (whole 6) (whole 4) (whole 1))
    column_leaves : Leaves (P ++ replace_column 0 (whole 1 ∷ whole 8 ∷ []) ∷ [])
        (rows (whole 0) (whole 1) (whole 1) (negative (ratio 1 8))) (rows (whole 8) (whole 1) (whole 0) (ratio 47 8)) (rows (whole 1) (whole 6) (whole 8) (whole 1))
    row_leaves : Leaves (P ++ replace_row 0 (whole 1 ∷ whole 1 ∷ []) ∷ [])
        (rows (whole 0) (whole 1) (whole 1) (negative (ratio 1 4))) (rows (whole 4) (whole 1) (whole 0) (ratio 3 4)) (rows (whole 1) (whole 1) (whole 4) (whole 1))
    remove_leaves : Leaves (P ++ remove 1 1 ∷ []) ((whole 1 ∷ []) ∷ []) ((whole 2 ∷ []) ∷ []) ((whole 2 ∷ []) ∷ [])
    small_leaves : Leaves small
        (rows (whole 1) (whole 0) (negative (ratio 1 2)) (whole 1)) (rows (ratio 1 2) (whole 3) (whole 0) (negative (ratio 1 2))) (rows (ratio 1 2) (whole 3) (ratio 1 4) (whole 1))
    -- a singular A: U's last diagonal entry is 0
    singular_leaves : Leaves singular
        (rows (whole 0) (whole 1) (whole 1) (negative (ratio 1 2))) (rows (whole 2) (whole 6) (whole 0) (whole 0)) (rows (whole 1) (whole 3) (whole 2) (whole 6))
    moves_leave : Leaves moves
        (rows (whole 0) (whole 1) (whole 1) (negative (ratio 3 4))) (rows (whole 4) (negative (whole 7)) (whole 0) (ratio 57 4))
        (rows (whole 3) (whole 9) (whole 4) (negative (whole 7)))
    -- A's moves are those that remove tells of
    moves_told : answers (exact_run undefined (empty undefined) moves) ≡ done ∷ done ∷ done ∷ moved (some 2) (some 2) ∷ []
    -- the calls that are not refused are P's
    interrupted_told : answers (exact_run undefined (empty undefined) interrupted) ≡ done ∷ refused 5 ∷ refused 7 ∷ done ∷ refused 7 ∷ refused 6 ∷ []
    refused_left_out : accepted_calls interrupted (exact_run undefined (empty undefined) interrupted) ≡ P
    refused_leave : after undefined interrupted ≡ after undefined P

  pub exact_table : ExactTable
  unfolding after spelled
  exact_table = record {
    P_leaves = search;
    column_leaves = search;
    row_leaves = search;
    remove_leaves = search;
    small_leaves = search;
    singular_leaves = search;
    moves_leave = search;
    moves_told = refl;
    interrupted_told = refl;
    refused_left_out = refl;
    refused_leave = refl;
  }
