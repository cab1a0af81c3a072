-- The two solves of the plain machine, and the diagonals that they refuse. Below stand computed lines for which diagonal is named.
use Rattle.std.specs.Prelude.{◌≡◌, refl, cond, true, List, [], ◌∷◌, ℕ, zero, suc, ◌+◌, ◌-◌, get_or, Float}
use Rattle.std.proofs.Math.Option.{Option, none, some}
use Rattle.std.specs.Float.{nan, inf, binary64}
use Rattle.std.specs.Float.Ieee.{neg, eq, of_bits}
use Rattle.numbers.specs.NumberForm.{NumberForm, nearest, ieee, whole}
use Rattle.machine.specs.Tables.{Vector, Table, State, put, tabulate}
use Rattle.machine.specs.Products.{entry, sum, product, product_transposed}
use Rattle.machine.specs.Calls.{Answer, refused_at, ◌or_else◌}

module _ (N : NumberForm) where
  open N use {Value, sub, mul, div, is_zero, is_finite}

  -- b(row) becomes (b(row) − sum)/U(row,row)
  unfoldable pub substituted : Value → Value → Value → Value
  substituted b total pivot = div (sub b total) pivot

  -- from row n − 1 down, k rows are done: sum from +0 over U(row,j) × b(j), j from row + 1 upward
  unfoldable pub back_substitution : ℕ → Table Value → Vector Value → ℕ → Vector Value
  back_substitution n U b zero = b
  back_substitution n U b (suc k) =
      let c = back_substitution n U b k in
      let row = n - suc k in
      let total = sum N k (λ j. mul (U row (suc row + j)) (c (suc row + j))) in
      put row (substituted (c row) total (U row row)) c

  -- the same from row 0 upward with U(j,row), j from 0 up to row − 1
  unfoldable pub forward_substitution : Table Value → Vector Value → ℕ → Vector Value
  forward_substitution U b zero = b
  forward_substitution U b (suc k) =
      let c = forward_substitution U b k in
      let total = sum N k (λ j. mul (U j k) (c j)) in
      put k (substituted (c k) total (U k k)) c

  -- Solve: the L product of the right-hand side, then back substitution in all rows.
  abbrev pub solution_vector : State Value → List Value → Vector Value
  solution_vector S b = back_substitution S.n S.U (product N S.n S.L (entry N b)) S.n

  unfoldable pub solution : State Value → List Value → List Value
  solution S b = tabulate S.n (solution_vector S b)

  -- Transpose solve: forward substitution in all rows, then the transposed L product.
  abbrev pub solution_transpose_vector : State Value → List Value → Vector Value
  solution_transpose_vector S b = product_transposed N S.n S.L (forward_substitution S.U (entry N b) S.n)

  unfoldable pub solution_transpose : State Value → List Value → List Value
  solution_transpose S b = tabulate S.n (solution_transpose_vector S b)

  -- 9 for a zero on the diagonal, 10 for an infinity or a NaN, with the index
  abbrev pub bad_diagonal : Value → ℕ → Option Answer
  bad_diagonal x i = cond (is_zero x) (some (refused_at 9 i)) (cond (is_finite x) none (some (refused_at 10 i)))

  -- the first bad one among the diagonals below k
  unfoldable pub diagonals : Table Value → ℕ → Option Answer
  diagonals U zero = none
  diagonals U (suc k) = diagonals U k or_else bad_diagonal (U k k) k

-- ---- the first bad diagonal is named, computed

-- U with that diagonal; nothing else is read
abbrev pub diagonal : Float → Float → Float → Table Float
diagonal a b c i j = get_or (a ∷ b ∷ c ∷ []) i nan

found : Float → Float → Float → Option Answer
found a b c = diagonals (ieee binary64) (diagonal a b c) 3

pub record FirstDiagonal : Type 0 where
  sound : found (whole 1) (whole 2) (whole 3) ≡ none
  zero_before_nan : found (whole 1) (neg (whole 0)) nan ≡ some (refused_at 9 1)
  nan_before_zero : found nan (whole 0) (whole 0) ≡ some (refused_at 10 0)
  infinity_last : found (whole 1) (whole 1) (inf true) ≡ some (refused_at 10 2)

pub first_diagonal : FirstDiagonal
unfolding found diagonals nearest neg eq of_bits
first_diagonal = record { sound = refl; zero_before_nan = refl; nan_before_zero = refl; infinity_last = refl }
