-- Request (h) as a statement: over exact fractions, with E and T zero, L × A = U, and L is not singular. Computed lines stand
-- among the definitions.
use Rattle.std.specs.Prelude.{◌≡◌, cond, List, [], ◌∷◌, ℕ, ◌+◌, ◌*◌, ◌<◌, leb}
use Rattle.std.proofs.Math.Path.{refl}
use Rattle.machine.specs.Tables.{Vector, Table, State}
use Rattle.machine.specs.Products.{sum, product}
use Rattle.machine.specs.Calls.{Call}
use Rattle.exact.specs.Fractions.{Fraction, ◌≈◌, whole, Undefined, fractions}
use Rattle.exact.specs.Matrix.{Matrix, matrix_of}
use Rattle.exact.specs.Runs.{AllAccepted, accepted_calls, last_state, exact_run}

-- U with zeros below its diagonal
abbrev pub upper_triangle : Table Fraction → Table Fraction
upper_triangle U i j = cond (leb i j) (U i j) (whole 0)

pub triangle_at : (U : Table Fraction)
    → upper_triangle U 0 0 ∷ upper_triangle U 0 1 ∷ upper_triangle U 1 0 ∷ upper_triangle U 1 1 ∷ [] ≡ U 0 0 ∷ U 0 1 ∷ whole 0 ∷ U 1 1 ∷ []
triangle_at U = refl

module _ (undefined : Undefined) where
  -- L × A: column k is the L product of A's column k
  abbrev pub factor_times : ℕ → Table Fraction → Table Fraction → Table Fraction
  factor_times n L A i k = product (fractions undefined) n L (λ j. A j k) i

  -- the rows 1, 2; 3, 4 times the rows 5, 6; 7, 8
  pub times_at : let LA = factor_times 2 (λ i j. whole (1 + 2 * i + j)) (λ i j. whole (5 + 2 * i + j)) in
      (LA 0 0 ≈ whole 19) × (LA 0 1 ≈ whole 22) × (LA 1 0 ≈ whole 43) × (LA 1 1 ≈ whole 50)
  unfolding product sum
  times_at = (refl, refl, refl, refl)

  pub record Factored (S : State Fraction) (A : Matrix Fraction) : Type 0 where
    pub size : A.n ≡ S.n
    -- L times A equals U with zeros below its diagonal
    pub factors : (i k : ℕ) → i < S.n → k < S.n → factor_times S.n S.L A.entries i k ≈ upper_triangle S.U i k
    -- L sends only the zero column to zero
    pub regular : (x : Vector Fraction) → ((i : ℕ) → i < S.n → product (fractions undefined) S.n S.L x i ≈ whole 0) → (j : ℕ) → j < S.n → x j ≈ whole 0

-- what a list of calls leaves of S
pub record WithoutRounding (undefined : Undefined) (S : State Fraction) (calls : List (Call Fraction)) : Type 0 where
  -- Where every call is accepted, A is the matrix that the calls spell out.
  pub accepted_list : let results = exact_run undefined S calls in
      AllAccepted results → Factored undefined (last_state S results) (matrix_of (fractions undefined) calls)
  -- With refused calls among them, A is the matrix that the others spell out.
  pub every_list : let results = exact_run undefined S calls in
      Factored undefined (last_state S results) (matrix_of (fractions undefined) (accepted_calls calls results))

-- After every list from dimension zero, whatever the tables hold there and whatever stands for undefined values. Solves may be among the calls: they change
-- neither the factors nor A.
abbrev pub FactorsWithoutRounding : Type 0
FactorsWithoutRounding = (undefined : Undefined) (S : State Fraction) (calls : List (Call Fraction)) → S.n ≡ 0 → WithoutRounding undefined S calls
