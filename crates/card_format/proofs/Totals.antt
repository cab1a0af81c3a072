-- Laws of totals: equal terms, a total cut in two and in groups, one changed term, and a running sum that wraps.
use mathlib.Core.Path.{◌≡◌, refl, ◌∙◌}
use mathlib.Core.Logic.{◌≢◌, ⊎_elim}
use Prim.Native.Nat.{ℕ, zero, suc, ◌+◌, ◌*◌, ◌%◌, ◌^◌, ◌<◌}
use native.Mathlib.Nat.{add-zero, add-suc, mul-zero, mul-suc, eq-or-lt_of_le, le_of_suc-le-suc}
use native.Mathlib.Omega.{arith}
use Rattle.card_format.specs.Blocks.{total}

pub total_same : (k : ℕ) (f g : ℕ → ℕ) → ((i : ℕ) → i < k → f i ≡ g i) → total k f ≡ total k g
unfolding total
total_same zero f g h = refl
total_same (suc k) f g h = λ t. total_same k f g (λ i l. h i (omega arith)) t + h k (omega arith) t

pub total_split : (a b : ℕ) (f : ℕ → ℕ) → total (a + b) f ≡ total a f + total b (λ i. f (a + i))
unfolding total
total_split a zero f = rw add-zero (omega arith)
total_split a (suc b) f = rw add-suc (omega (arith, total_split a b f))

-- w terms to a group
pub total_groups : (w m : ℕ) (f : ℕ → ℕ) → total (w * m) f ≡ total m (λ k. total w (λ i. f (w * k + i)))
unfolding total
total_groups w zero f = rw mul-zero refl
total_groups w (suc m) f = rw mul-suc (total_split (w * m) w f ∙ omega (arith, total_groups w m f))

-- what a total with one other term comes to
pub total_changed : (k j : ℕ) (f g : ℕ → ℕ) → j < k → ((i : ℕ) → i < k → i ≢ j → f i ≡ g i) → total k f + g j ≡ total k g + f j
unfolding total
total_changed zero j f g h e = absurd (omega arith)
total_changed (suc k) j f g h e =
    ⊎_elim
    (λ (p : j ≡ k). rw p (omega (arith, total_same k f g (λ i l. e i (omega arith) (λ q. omega arith)))))
    (λ (l : j < k). omega (arith, total_changed k j f g l (λ i l. e i (omega arith)), e k (omega arith) (λ q. omega arith)))
    (eq-or-lt_of_le (le_of_suc-le-suc h))

-- one more term of a sum that wraps
pub total_wrapped : (b k : ℕ) (f : ℕ → ℕ) → ((b + total k f) % 2 ^ 64 + f k) % 2 ^ 64 ≡ (b + total (suc k) f) % 2 ^ 64
unfolding total
total_wrapped b k f = omega arith
