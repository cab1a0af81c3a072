-- Ready, document 02 (d): no diagonal is refused and every active entry of L and U is finite. It is said by entries (`Ready`) and computed (`is_ready`);
-- proofs/Readiness.antt shows that the two are the same. Below stand computed lines.
use Rattle.std.specs.Prelude.{◌≡◌, refl, Bool, true, false, ◌&&◌, List, [], ◌∷◌, ℕ, zero, suc, ◌+◌, ◌-◌, ◌≤◌, ◌<◌, get_or, Float}
use Rattle.std.proofs.Math.Option.{none}
use Rattle.std.specs.Float.{nan, inf, binary64}
use Rattle.std.specs.Float.Ieee.{neg, eq, of_bits}
use Rattle.numbers.specs.NumberForm.{NumberForm, nearest, ieee, whole, largest, least}
use Rattle.machine.specs.Tables.{Table, State}
use Rattle.machine.specs.Solves.{bad_diagonal, diagonals}
use Rattle.machine.specs.Calls.{is_none, done, solve}
use Rattle.machine.specs.BenchStates.{call}

-- a test that holds at every place below k
unfoldable pub all_below : ℕ → (ℕ → Bool) → Bool
all_below zero test = true
all_below (suc k) test = all_below k test && test k

module _ (N : NumberForm) where
  open N use {Value, is_finite}

  -- By entries: the active ones, L(i,j) with i,j < n and U(i,j) with i ≤ j < n, and no others.
  pub record Ready (S : State Value) : Type 0 where
    pub diagonal : (i : ℕ) → i < S.n → bad_diagonal N (S.U i i) i ≡ none
    pub L : (i j : ℕ) → i < S.n → j < S.n → is_finite (S.L i j) ≡ true
    pub U : (i j : ℕ) → i ≤ j → j < S.n → is_finite (S.U i j) ≡ true

  -- Computed row by row, where a row of U begins at its diagonal
  abbrev pub finite_l : ℕ → Table Value → Bool
  finite_l n L = all_below n (λ i. all_below n (λ j. is_finite (L i j)))

  abbrev pub finite_u : ℕ → Table Value → Bool
  finite_u n U = all_below n (λ i. all_below (n - i) (λ k. is_finite (U i (i + k))))

  unfoldable pub is_ready : State Value → Bool
  is_ready S = is_none (diagonals N S.U S.n) && (finite_l S.n S.L && finite_u S.n S.U)

-- ---- which factors are ready, computed

-- entries row by row; o stands wherever there are none
rows : Float → List (List Float) → Table Float
rows o entries i j = get_or (get_or entries i []) j o

-- factors of dimension 2: L's rows (a, b) and (c, d), U's rows (p, q) and, from its diagonal on, (r); o stands at every place that is not active
factors : Float → (a b c d p q r : Float) → State Float
factors o a b c d p q r = record { n = 2; L = rows o ((a ∷ b ∷ []) ∷ (c ∷ d ∷ []) ∷ []); U = rows o ((p ∷ q ∷ []) ∷ (o ∷ r ∷ []) ∷ []) }

ready : Float → (a b c d p q r : Float) → Bool
ready o a b c d p q r = is_ready (ieee binary64) (factors o a b c d p q r)

-- factors of dimension 1
single : Float → Float → State Float
single l u = record { n = 1; L = λ i j. l; U = λ i j. u }

pub record WhichReady : Type 0 where
  -- infinities and NaNs outside the active entries alone, and zeros that are not on U's diagonal
  sound : ready nan (whole 1) (whole 0) (whole 3) (whole 1) (whole 2) (whole 6) (whole 5) ≡ true
  sound_beside_infinities : ready (inf true) (neg (whole 0)) (neg largest) least (whole 0) (neg least) (whole 0) largest ≡ true
  empty : is_ready (ieee binary64) (record { n = 0; L = λ i j. nan; U = λ i j. nan }) ≡ true
  -- one bad entry in L, at each of its places
  L_first : ready (whole 1) (inf false) (whole 0) (whole 3) (whole 1) (whole 2) (whole 6) (whole 5) ≡ false
  L_above : ready (whole 1) (whole 1) nan (whole 3) (whole 1) (whole 2) (whole 6) (whole 5) ≡ false
  L_below : ready (whole 1) (whole 1) (whole 0) (inf true) (whole 1) (whole 2) (whole 6) (whole 5) ≡ false
  L_last : ready (whole 1) (whole 1) (whole 0) (whole 3) nan (whole 2) (whole 6) (whole 5) ≡ false
  -- one above U's diagonal
  U_above : ready (whole 1) (whole 1) (whole 0) (whole 3) (whole 1) (whole 2) nan (whole 5) ≡ false
  -- on U's diagonal, where a zero is bad too
  U_first : ready (whole 1) (whole 1) (whole 0) (whole 3) (whole 1) (inf false) (whole 6) (whole 5) ≡ false
  U_zero : ready (whole 1) (whole 1) (whole 0) (whole 3) (whole 1) (neg (whole 0)) (whole 6) (whole 5) ≡ false
  U_last_zero : ready (whole 1) (whole 1) (whole 0) (whole 3) (whole 1) (whole 2) (whole 6) (whole 0) ≡ false
  -- the board of the request: an infinity in L over a sound diagonal is not ready, and the solve goes on and reads NaN
  report : is_ready (ieee binary64) (single (inf false) (whole 1)) ≡ false
  report_answer : (call (single (inf false) (whole 1)) (solve (whole 0 ∷ []))).answer ≡ done
  report_solved : (call (single (inf false) (whole 1)) (solve (whole 0 ∷ []))).solved ≡ nan ∷ []
  -- ready is no promise that a solve does not overflow
  overflow : is_ready (ieee binary64) (single (whole 1) least) ≡ true
  overflow_solved : (call (single (whole 1) least) (solve (whole 1 ∷ []))).solved ≡ inf false ∷ []

pub which_ready : WhichReady
unfolding ready factors rows single is_ready all_below diagonals call nearest neg eq of_bits
which_ready = record {
  sound = refl;
  sound_beside_infinities = refl;
  empty = refl;
  L_first = refl;
  L_above = refl;
  L_below = refl;
  L_last = refl;
  U_above = refl;
  U_first = refl;
  U_zero = refl;
  U_last_zero = refl;
  report = refl;
  report_answer = refl;
  report_solved = refl;
  overflow = refl;
  overflow_solved = refl;
}
