-- The plain machine's data. A vector is a function of a place and a table of two; only the active places mean anything, and proofs/Step.antt shows that
-- nothing else is read.
use Rattle.std.specs.Prelude.{cond, List, [], ◌∷◌, ℕ, zero, suc, eqb}

abbrev pub Vector : Type 0 → Type 0
Vector A = ℕ → A

abbrev pub Table : Type 0 → Type 0
Table A = ℕ → ℕ → A

-- The machine has n, an n by n table L and the triangle U. Active: L(i,j) with i,j < n, and U(i,j) with i ≤ j < n.
pub record State (A : Type 0) : Type 0 where
  pub n : ℕ
  pub L : Table A
  pub U : Table A

-- the factors with the two vectors that Forward and Backward work on: y is Forward's y and Backward's dense, v is Backward's v
pub record Work (A : Type 0) : Type 0 where
  pub L : Table A
  pub U : Table A
  pub y : Vector A
  pub v : Vector A

module _ {A : Type 0} where
  abbrev pub state_of : ℕ → Work A → State A
  state_of n S = record { n = n; L = S.L; U = S.U }

  -- f with x at i
  abbrev pub put : ℕ → A → Vector A → Vector A
  put i x f = λ j. cond (eqb j i) x (f j)

  -- the entries below k, as a list
  abbrev pub tabulate : ℕ → Vector A → List A
  tabulate zero f = []
  tabulate (suc k) f = f zero ∷ tabulate k (λ i. f (suc i))
