-- The whole numbers are a commutative ring, and a positive factor cancels.
use mathlib.Core.Path.{◌≡◌, sym, ap, ap₂, subst, ◌∙◌}
use Prim.Native.Nat.{ℕ, suc, ◌*◌, ◌<◌}
use native.Mathlib.Nat.{zero-mul, eq_of_mul-eq-mul_right}
use native.Mathlib.Omega.{arith}
use lib.IntN.{ℤ, pos, negsuc, suc_ℤ, pred_ℤ, neg_ℤ, nat_abs, ◌+ℤ◌, ◌*ℤ◌, +ℤ_idl, +ℤ_idr, +ℤ_one, -ℤ_one, +ℤ_assoc, +ℤ_comm, +ℤ_invr, +ℤ_invl, +ℤ-neg_ℤ_cancel, ℤ_ind, suc_ℤ-+ℤ, pred_ℤ-+ℤ, suc_ℤ-*ℤ, pred_ℤ-*ℤ, zero-*ℤ, *ℤ-one, *ℤ_comm, neg_ℤ-neg_ℤ}
use Rattle.exact.proofs.Ring.{CommutativeRing}

-- the library's induction, in steps of suc_ℤ and pred_ℤ
integer_induction : (P : ℤ → Type 0) → P (pos 0) → ((m : ℤ) → P m → P (suc_ℤ m)) → ((m : ℤ) → P m → P (pred_ℤ m)) → (m : ℤ) → P m
integer_induction P z up down = ℤ_ind P z (λ n h. subst P (sym (+ℤ_one (pos n))) (up (pos n) h)) (λ n h. subst P (sym (-ℤ_one (neg_ℤ (pos n)))) (down (neg_ℤ (pos n)) h))

swap_last : (a b c : ℤ) → a +ℤ b +ℤ c ≡ a +ℤ c +ℤ b
swap_last a b c = +ℤ_assoc a b c ∙ ap (λ (t : ℤ). a +ℤ t) (+ℤ_comm b c) ∙ sym (+ℤ_assoc a c b)

pub *ℤ_distrib : (a b c : ℤ) → (a +ℤ b) *ℤ c ≡ a *ℤ c +ℤ b *ℤ c
*ℤ_distrib a b c = integer_induction (λ (m : ℤ). (m +ℤ b) *ℤ c ≡ m *ℤ c +ℤ b *ℤ c)
    (ap (λ (t : ℤ). t *ℤ c) (+ℤ_idl b) ∙ sym (ap (λ (t : ℤ). t +ℤ b *ℤ c) (zero-*ℤ c) ∙ +ℤ_idl (b *ℤ c)))
    (λ m h. ap (λ (t : ℤ). t *ℤ c) (suc_ℤ-+ℤ m b) ∙ suc_ℤ-*ℤ (m +ℤ b) c ∙ ap (λ (t : ℤ). t +ℤ c) h ∙ swap_last (m *ℤ c) (b *ℤ c) c
    ∙ ap (λ (t : ℤ). t +ℤ b *ℤ c) (sym (suc_ℤ-*ℤ m c)))
    (λ m h. ap (λ (t : ℤ). t *ℤ c) (pred_ℤ-+ℤ m b) ∙ pred_ℤ-*ℤ (m +ℤ b) c ∙ ap (λ (t : ℤ). t +ℤ neg_ℤ c) h ∙ swap_last (m *ℤ c) (b *ℤ c) (neg_ℤ c)
    ∙ ap (λ (t : ℤ). t +ℤ b *ℤ c) (sym (pred_ℤ-*ℤ m c)))
    a

cancel_add : (a b : ℤ) → a +ℤ b ≡ pos 0 → a ≡ neg_ℤ b
cancel_add a b h = sym (+ℤ-neg_ℤ_cancel a b) ∙ ap (λ (t : ℤ). t +ℤ neg_ℤ b) h ∙ +ℤ_idl (neg_ℤ b)

pub neg_*ℤ : (b c : ℤ) → neg_ℤ b *ℤ c ≡ neg_ℤ (b *ℤ c)
neg_*ℤ b c = cancel_add (neg_ℤ b *ℤ c) (b *ℤ c) (sym (*ℤ_distrib (neg_ℤ b) b c) ∙ ap (λ (t : ℤ). t *ℤ c) (+ℤ_invl b) ∙ zero-*ℤ c)

pub *ℤ_assoc : (a b c : ℤ) → a *ℤ b *ℤ c ≡ a *ℤ (b *ℤ c)
*ℤ_assoc a b c = integer_induction (λ (m : ℤ). m *ℤ b *ℤ c ≡ m *ℤ (b *ℤ c))
    (ap (λ (t : ℤ). t *ℤ c) (zero-*ℤ b) ∙ zero-*ℤ c ∙ sym (zero-*ℤ (b *ℤ c)))
    (λ m h. ap (λ (t : ℤ). t *ℤ c) (suc_ℤ-*ℤ m b) ∙ *ℤ_distrib (m *ℤ b) b c ∙ ap (λ (t : ℤ). t +ℤ b *ℤ c) h ∙ sym (suc_ℤ-*ℤ m (b *ℤ c)))
    (λ m h. ap (λ (t : ℤ). t *ℤ c) (pred_ℤ-*ℤ m b) ∙ *ℤ_distrib (m *ℤ b) (neg_ℤ b) c ∙ ap₂ ◌+ℤ◌ h (neg_*ℤ b c) ∙ sym (pred_ℤ-*ℤ m (b *ℤ c)))
    a

pub mul_1 : (m : ℤ) → m *ℤ pos 1 ≡ m
unfolding lib.IntN.one
mul_1 m = *ℤ-one m

abbrev pub integers : CommutativeRing
integers = record {
  F = ℤ;
  𝟎 = pos 0;
  𝟏 = pos 1;
  ◌⊕◌ = ◌+ℤ◌;
  ◌⊗◌ = ◌*ℤ◌;
  ⊖ = neg_ℤ;
  add_assoc = +ℤ_assoc;
  add_comm = +ℤ_comm;
  add_zero = +ℤ_idr;
  add_neg = +ℤ_invr;
  mul_assoc = *ℤ_assoc;
  mul_comm = *ℤ_comm;
  mul_one = mul_1;
  distrib = *ℤ_distrib;
}

pub factor_zero : (a : ℤ) (d : ℕ) → 0 < d → a *ℤ pos d ≡ pos 0 → a ≡ pos 0
factor_zero (pos m) d p h = ap pos (eq_of_mul-eq-mul_right d p m 0 (ap nat_abs h ∙ sym (zero-mul d)))
factor_zero (negsuc m) d p h =
    let e : suc m * d ≡ 0 = ap nat_abs (sym (neg_ℤ-neg_ℤ (pos (suc m * d))) ∙ ap neg_ℤ h) in
    absurd (omega arith)

pub cancel : (a b : ℤ) (d : ℕ) → 0 < d → a *ℤ pos d ≡ b *ℤ pos d → a ≡ b
cancel a b d p h =
    let z : (a +ℤ neg_ℤ b) *ℤ pos d ≡ pos 0 = *ℤ_distrib a (neg_ℤ b) (pos d) ∙ ap₂ ◌+ℤ◌ h (neg_*ℤ b (pos d)) ∙ +ℤ_invr (b *ℤ pos d) in
    cancel_add a (neg_ℤ b) (factor_zero (a +ℤ neg_ℤ b) d p z) ∙ neg_ℤ-neg_ℤ b
