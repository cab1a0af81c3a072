-- Laws of words: a word and its eight bytes determine one another, and what putting a word changes.
use mathlib.Core.Path.{◌≡◌, sym, ap, ◌∙◌}
use mathlib.Core.List.{List}
use Prim.Native.Nat.{ℕ, zero, suc, ◌+◌, ◌*◌, ◌/◌, ◌%◌, ◌^◌, ◌<◌}
use mathlib.Core.Logic.{⊎_elim}
use native.Mathlib.Nat.{add-zero, pow-suc, pow-succ', mod-eq_of_lt, eq-or-lt_of_le, le_of_suc-le-suc}
use native.Mathlib.Omega.{arith}
use lib.Arith.{mod-mul, digits_lt, digits_div, digits_mod}
use lib.ListN.{get_or}
use Rattle.card_format.specs.CardLaws.{AreBytes}
use Rattle.card_format.specs.Blocks.{total, word_at}
use Rattle.card_format.proofs.Totals.{total_same}

-- the number with k digits to the base 256, the least first
abbrev number : (ℕ → ℕ) → ℕ → ℕ
number d k = total k (λ i. d i * 256 ^ i)

power_positive : (k : ℕ) → 0 < 256 ^ k
power_positive zero = omega arith
power_positive (suc k) = rw pow-suc (omega (arith, power_positive k))

number_bound : (d : ℕ → ℕ) → ((i : ℕ) → d i < 256) → (k : ℕ) → number d k < 256 ^ k
unfolding total
number_bound d h zero = omega arith
number_bound d h (suc k) = rw pow-succ' (omega (arith, digits_lt {q = d k} {m = 256} (h k) (number_bound d h k)))

number_digits : (v k : ℕ) → number (λ i. v / 256 ^ i % 256) k ≡ v % 256 ^ k
unfolding total
number_digits v zero = omega arith
number_digits v (suc k) = rw pow-succ' (omega (arith, number_digits v k, mod-mul v {m = 256} {c = 256 ^ k} (omega arith) (power_positive k)))

-- two sums of a multiple and a remainder
same_parts : (m q r q' r' : ℕ) → r < m → r' < m → r + q * m ≡ r' + q' * m → (q ≡ q') × (r ≡ r')
same_parts m q r q' r' h h' e =
    let f : q * m + r ≡ q' * m + r' = omega arith in
    (sym (digits_div q h) ∙ ap (λ (x : ℕ). x / m) f ∙ digits_div q' h', sym (digits_mod q h) ∙ ap (λ (x : ℕ). x % m) f ∙ digits_mod q' h')

number_injective : (d e : ℕ → ℕ) → ((i : ℕ) → d i < 256) → ((i : ℕ) → e i < 256) → (k : ℕ) → number d k ≡ number e k → (i : ℕ) → i < k → d i ≡ e i
unfolding total
number_injective d e hd he zero p i h = absurd (omega arith)
number_injective d e hd he (suc k) p i h =
    let parts = same_parts (256 ^ k) (d k) (number d k) (e k) (number e k) (number_bound d hd k) (number_bound e he k) p in
    ⊎_elim (λ (q : i ≡ k). rw q parts.0) (number_injective d e hd he k parts.1 i) (eq-or-lt_of_le (le_of_suc-le-suc h))

module _ (bytes : List ℕ) (fit : AreBytes bytes) (at : ℕ) where
  pub word_bound : word_at bytes at < 2 ^ 64
  unfolding word_at
  word_bound = number_bound (λ i. get_or bytes (at + i) 0) (λ i. fit (at + i)) 8

  -- each byte by its word
  pub byte_of_word : (i : ℕ) → i < 8 → get_or bytes (at + i) 0 ≡ word_at bytes at / 256 ^ i % 256
  unfolding word_at
  byte_of_word =
      number_injective (λ i. get_or bytes (at + i) 0) (λ i. word_at bytes at / 256 ^ i % 256) (λ i. fit (at + i)) (λ i. omega arith) 8
      (sym (number_digits (word_at bytes at) 8 ∙ mod-eq_of_lt word_bound))

-- eight bytes of a word
pub word_of_bytes : (bytes : List ℕ) (at v : ℕ) → ((i : ℕ) → i < 8 → get_or bytes (at + i) 0 ≡ v / 256 ^ i % 256) → word_at bytes at ≡ v % 2 ^ 64
unfolding word_at
word_of_bytes bytes at v h = total_same 8 _ _ (λ i l. ap (λ (x : ℕ). x * 256 ^ i) (h i l)) ∙ number_digits v 8

-- a word as the sum that `from_le_bytes` makes
pub word_is : (bytes : List ℕ) (at : ℕ)
    → word_at bytes at
    ≡ get_or bytes at 0
    + get_or bytes (at + 1) 0 * 0x100
    + get_or bytes (at + 2) 0 * 0x1_0000
    + get_or bytes (at + 3) 0 * 0x100_0000
    + get_or bytes (at + 4) 0 * 0x1_0000_0000
    + get_or bytes (at + 5) 0 * 0x100_0000_0000
    + get_or bytes (at + 6) 0 * 0x1_0000_0000_0000
    + get_or bytes (at + 7) 0 * 0x100_0000_0000_0000
unfolding word_at total
word_is bytes at = rw (add-zero at) (omega arith)

-- a word whose bytes are kept
pub word_same : (old new : List ℕ) (at : ℕ) → ((i : ℕ) → i < 8 → get_or new (at + i) 0 ≡ get_or old (at + i) 0) → word_at new at ≡ word_at old at
unfolding word_at
word_same old new at h = total_same 8 _ _ (λ i l. ap (λ (x : ℕ). x * 256 ^ i) (h i l))
