-- Every entry has its place within its buffer, and no two entries share one.
use mathlib.Core.Path.{◌≡◌, refl, ap, subst}
use mathlib.Core.Logic.{◌≢◌}
use Prim.Native.Nat.{ℕ, zero, suc, ◌+◌, ◌-◌, ◌*◌, ◌/◌, ◌^◌, ◌≤◌, ◌<◌}
use native.Mathlib.Nat.{mul-le-mul_right, mul-le-mul_left, add-zero, add-suc}
use native.Mathlib.Omega.{arith}
use native.Mathlib.Decide.{dec_lt}
use Rattle.storage.specs.Places.{l_length, u_length, l_index, work_index, u_index}
use Rattle.storage.proofs.Lengths.{length_fits}

-- ---- L and the solve work behind it

-- a row ends before a later one starts, and the last before the solve work
pub row_before : (c i p : ℕ) → i < p → i * c + c ≤ p * c
row_before c i p h = omega (arith, mul-le-mul_right {m = suc i} {n = p} c h)

-- a whole row of L, with what may be added to it
pub row_fits : (c i : ℕ) → i < c → c < 2 ^ 32 → i * c + c < 2 ^ 64
row_fits c i hi hc = omega (arith, row_before c i c hi, length_fits c hc)

pub l_index_within : (c i j : ℕ) → i < c → j < c → l_index c i j < c * c
l_index_within c i j hi hj = omega (arith, row_before c i c hi)

pub work_index_within : (c i : ℕ) → i < c → work_index c i < l_length c
work_index_within c i hi = omega arith

pub l_index_not_work : (c i j k : ℕ) → i < c → j < c → l_index c i j ≢ work_index c k
l_index_not_work c i j k hi hj e = omega (arith, l_index_within c i j hi hj)

-- a pair of rows in order gives places in order
l_index_rising : (c i j p q : ℕ) → i < p → j < c → l_index c i j < l_index c p q
l_index_rising c i j p q h hj = omega (arith, row_before c i p h)

-- Two indices are equal where neither can be below the other.
same_row : (i p : ℕ) → (i < p → ⊥) → (p < i → ⊥) → i ≡ p
same_row i p a b = go (dec_lt i p) (dec_lt p i)
  where
    go : Dec (i < p) → Dec (p < i) → i ≡ p
    go (yes h) d = absurd (a h)
    go (no h) (yes g) = absurd (b g)
    go (no h) (no g) = omega arith

pub l_index_injective : (c i j p q : ℕ) → j < c → q < c → l_index c i j ≡ l_index c p q → (i ≡ p) × (j ≡ q)
l_index_injective c i j p q hj hq e =
    let r : i ≡ p = same_row i p (λ h. omega (arith, l_index_rising c i j p q h hj)) (λ h. omega (arith, l_index_rising c p q i j h hq)) in
    (r, omega (arith, ap (λ (x : ℕ). x * c) r))

-- ---- U

-- where row i of U begins
unfoldable pub row_start : ℕ → ℕ → ℕ
row_start c i = i * c - i * (i - 1) / 2

suc_pred : (i : ℕ) → suc i - 1 ≡ i
suc_pred i = omega arith

-- the triangular numbers
triangle_suc : (i : ℕ) → suc i * (suc i - 1) / 2 ≡ i * (i - 1) / 2 + i
triangle_suc zero = refl
triangle_suc (suc i) = rw (suc_pred (suc i), suc_pred i) (omega arith)

triangle_even : (i : ℕ) → suc i * i / 2 + suc i * i / 2 ≡ suc i * i
triangle_even zero = refl
triangle_even (suc i) = omega (arith, triangle_even i, simp suc_pred at (triangle_suc (suc i)))

pub triangle_le : (c i : ℕ) → i ≤ suc c → i * (i - 1) ≤ i * c
triangle_le c i h = mul-le-mul_left {m = i - 1} {n = c} i (omega arith)

pub row_suc : (c i : ℕ) → i < c → row_start c (suc i) ≡ row_start c i + (c - i)
unfolding row_start
row_suc c i h = omega (arith, triangle_suc i, triangle_le c i (omega arith), triangle_le c (suc i) (omega arith))

row_rising : (c i k : ℕ) → i + k ≤ c → row_start c i ≤ row_start c (i + k)
row_rising c i zero h = rw add-zero (omega arith)
row_rising c i (suc k) h = rw add-suc (omega (arith, row_rising c i k (omega arith), row_suc c (i + k) (omega arith)))

-- a later row begins behind the end of this one
row_behind : (c i p : ℕ) → i < p → p ≤ c → row_start c i + (c - i) ≤ row_start c p
row_behind c i p h k =
    let e : suc i + (p - suc i) ≡ p = omega arith in
    let a : row_start c (suc i) ≤ row_start c p = subst (λ (x : ℕ). row_start c (suc i) ≤ row_start c x) e (row_rising c (suc i) (p - suc i) (omega arith)) in
    omega (arith, row_suc c i (omega arith))

pub rows_end : (c : ℕ) → row_start c c ≡ u_length c
unfolding row_start
rows_end zero = refl
rows_end (suc c) = rw suc_pred (omega (arith, triangle_even c))

pub u_index_row_0 : (c j : ℕ) → u_index c 0 j ≡ j
unfolding u_index
u_index_row_0 c j = omega arith

pub u_index_is : (c i j : ℕ) → i ≤ j → j < c → u_index c i j ≡ row_start c i + (j - i)
unfolding row_start u_index
u_index_is c i j h k = omega (arith, triangle_le c i (omega arith))

-- the entries of a row stand one after the other
pub u_index_along : (c i j k : ℕ) → i ≤ j → j + k < c → u_index c i (j + k) ≡ u_index c i j + k
u_index_along c i j k h l = omega (arith, u_index_is c i j h (omega arith), u_index_is c i (j + k) (omega arith) l)

pub u_index_within : (c i j : ℕ) → i ≤ j → j < c → u_index c i j < u_length c
u_index_within c i j h k = omega (arith, u_index_is c i j h k, row_behind c i c (omega arith) (omega arith), rows_end c)

u_index_rising : (c i j p q : ℕ) → i ≤ j → j < c → p ≤ q → q < c → i < p → u_index c i j < u_index c p q
u_index_rising c i j p q h k h' k' l = omega (arith, u_index_is c i j h k, u_index_is c p q h' k', row_behind c i p l (omega arith))

pub u_index_injective : (c i j p q : ℕ) → i ≤ j → j < c → p ≤ q → q < c → u_index c i j ≡ u_index c p q → (i ≡ p) × (j ≡ q)
u_index_injective c i j p q h k h' k' e =
    let r : i ≡ p = same_row i p (λ l. omega (arith, u_index_rising c i j p q h k h' k' l)) (λ l. omega (arith, u_index_rising c p q i j h' k' h k l)) in
    (r, omega (arith, ap (row_start c) r, u_index_is c i j h k, u_index_is c p q h' k'))
