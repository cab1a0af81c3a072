-- Fractions by their values: equality as fractions is an equivalence that sums, products and negatives keep, and the values are a commutative ring.
use mathlib.Core.Path.{◌≡◌, refl, sym, ap, ap₂, ◌∙◌}
use mathlib.Core.Quot.Quotient
use mathlib.Core.Quot.{Setoid, Quotient, Quotient-set}
use Prim.Native.Nat.{ℕ}
use native.Mathlib.Nat.{mul_assoc, mul_comm, mul-one}
use lib.IntN.{ℤ, pos, neg_ℤ, ℤ_set, ◌+ℤ◌, ◌*ℤ◌, +ℤ_idr, +ℤ_comm, +ℤ_invr, zero-*ℤ, *ℤ_comm}
use Rattle.exact.specs.Fractions.{Fraction, ◌≈◌, plus, negative, times, whole}
use Rattle.exact.proofs.Ring.{CommutativeRing, sum_assoc, sum_product, sum_cross, product_cross, cross_trans}
use Rattle.exact.proofs.Integers.{integers, *ℤ_assoc, neg_*ℤ, mul_1, cancel}

abbrev pub D : Fraction → ℤ
D x = pos x.denominator

abbrev pub 𝟘 : Fraction
𝟘 = whole 0

abbrev 𝟙 : Fraction
𝟙 = whole 1

-- ---- equality as fractions

-- numerators a and b, denominators d and e
alike : {a b : ℤ} {d e : ℕ} → a ≡ b → d ≡ e → a *ℤ pos e ≡ b *ℤ pos d
alike p q = ap₂ (λ (a : ℤ) (d : ℕ). a *ℤ pos d) p (sym q)

pub ≈_trans : (x y z : Fraction) → x ≈ y → y ≈ z → x ≈ z
≈_trans x y z h k =
    cancel (x.numerator *ℤ D z) (z.numerator *ℤ D x) y.denominator y.positive
    (cross_trans integers x.numerator y.numerator z.numerator (D x) (D y) (D z) h k)

abbrev equality : Setoid {0, 0} Fraction
equality = record { r = ◌≈◌; iseqv = record { refl = λ x. refl; symm = λ x y h. sym h; trans = ≈_trans } }

plus_comm : (x y : Fraction) → plus x y ≈ plus y x
plus_comm x y = alike (+ℤ_comm (x.numerator *ℤ D y) (y.numerator *ℤ D x)) (mul_comm x.denominator y.denominator)

plus_assoc : (x y z : Fraction) → plus (plus x y) z ≈ plus x (plus y z)
plus_assoc x y z =
    alike (sum_assoc integers x.numerator y.numerator z.numerator (D x) (D y) (D z)) (mul_assoc x.denominator y.denominator z.denominator)

pub plus_zero : (x : Fraction) → plus x 𝟘 ≈ x
plus_zero x = alike (ap₂ ◌+ℤ◌ (mul_1 x.numerator) (zero-*ℤ (D x)) ∙ +ℤ_idr x.numerator) (mul-one x.denominator)

pub numerator_zero : (x : Fraction) → x.numerator ≡ pos 0 → x ≈ 𝟘
numerator_zero x h = ap (λ (t : ℤ). t *ℤ pos 1) h ∙ sym (zero-*ℤ (D x))

pub plus_negative : (x : Fraction) → plus x (negative x) ≈ 𝟘
plus_negative x = numerator_zero (plus x (negative x)) (ap (λ (t : ℤ). x.numerator *ℤ D x +ℤ t) (neg_*ℤ x.numerator (D x)) ∙ +ℤ_invr (x.numerator *ℤ D x))

times_comm : (x y : Fraction) → times x y ≈ times y x
times_comm x y = alike (*ℤ_comm x.numerator y.numerator) (mul_comm x.denominator y.denominator)

times_assoc : (x y z : Fraction) → times (times x y) z ≈ times x (times y z)
times_assoc x y z = alike (*ℤ_assoc x.numerator y.numerator z.numerator) (mul_assoc x.denominator y.denominator z.denominator)

times_one : (x : Fraction) → times x 𝟙 ≈ x
times_one x = alike (mul_1 x.numerator) (mul-one x.denominator)

plus_times : (x y z : Fraction) → times (plus x y) z ≈ plus (times x z) (times y z)
plus_times x y z = sum_product integers x.numerator y.numerator z.numerator (D x) (D y) (D z)

-- an operation that keeps equality on the left and commutes keeps it on both sides
both : (f : Fraction → Fraction → Fraction) → ((x y : Fraction) → f x y ≈ f y x) → ((x x' y : Fraction) → x ≈ x' → f x y ≈ f x' y)
    → (x y x' y' : Fraction) → x ≈ x' → y ≈ y' → f x y ≈ f x' y'
both f c l x y x' y' h k =
    ≈_trans (f x y) (f x' y) (f x' y') (l x x' y h)
    (≈_trans (f x' y) (f y x') (f x' y') (c x' y) (≈_trans (f y x') (f y' x') (f x' y') (l y y' x' k) (c y' x')))

pub plus_same : (x y x' y' : Fraction) → x ≈ x' → y ≈ y' → plus x y ≈ plus x' y'
plus_same = both plus plus_comm (λ x x' y h. sum_cross integers x.numerator x'.numerator y.numerator (D x) (D x') (D y) h)

times_same : (x y x' y' : Fraction) → x ≈ x' → y ≈ y' → times x y ≈ times x' y'
times_same = both times times_comm (λ x x' y h. product_cross integers x.numerator x'.numerator y.numerator (D x) (D x') (D y) h)

negative_same : (x y : Fraction) → x ≈ y → negative x ≈ negative y
negative_same x y h = neg_*ℤ x.numerator (D y) ∙ ap neg_ℤ h ∙ sym (neg_*ℤ y.numerator (D x))

-- ---- the values

abbrev Value : Type 0
Value = Quotient equality

abbrev class : Fraction → Value
class = Quotient.mk equality

sound : (x y : Fraction) → x ≈ y → class x ≡ class y
sound x y h = Quotient.sound equality {a = x} {b = y} h

set : IsSet Value
set = Quotient-set equality

-- an equation holds of all values if it does of those of fractions
equation : (f g : Value → Value → Value → Value) → ((x y z : Fraction) → f (class x) (class y) (class z) ≡ g (class x) (class y) (class z))
    → (a b c : Value) → f a b c ≡ g a b c
equation f g h a b c = Quotient.induction_on₃ equality equality equality (λ p q r. set (f p q r) (g p q r)) a b c h

unfoldable ◌⊞◌ : Value → Value → Value
◌⊞◌ = Quotient.lift₂ equality equality set (λ x y. class (plus x y)) (λ x y x' y' h k. sound (plus x y) (plus x' y') (plus_same x y x' y' h k))

unfoldable ◌⊠◌ : Value → Value → Value
◌⊠◌ = Quotient.lift₂ equality equality set (λ x y. class (times x y)) (λ x y x' y' h k. sound (times x y) (times x' y') (times_same x y x' y' h k))

unfoldable ⊟ : Value → Value
⊟ = Quotient.lift equality set (λ x. class (negative x)) (λ x y h. sound (negative x) (negative y) (negative_same x y h))

infixl 60 ◌⊞◌
infixl 70 ◌⊠◌
pub rationals : CommutativeRing
unfolding ◌⊞◌ ◌⊠◌ ⊟ Quotient.lift₂ Quotient.lift
rationals = record {
  F = Value;
  𝟎 = class 𝟘;
  𝟏 = class 𝟙;
  ◌⊕◌ = ◌⊞◌;
  ◌⊗◌ = ◌⊠◌;
  ⊖ = ⊟;
  add_assoc = equation (λ a b c. a ⊞ b ⊞ c) (λ a b c. a ⊞ (b ⊞ c)) (λ x y z. sound (plus (plus x y) z) (plus x (plus y z)) (plus_assoc x y z));
  add_comm = λ a b. equation (λ a b c. a ⊞ b) (λ a b c. b ⊞ a) (λ x y z. sound (plus x y) (plus y x) (plus_comm x y)) a b a;
  add_zero = λ a. equation (λ a b c. a ⊞ class 𝟘) (λ a b c. a) (λ x y z. sound (plus x 𝟘) x (plus_zero x)) a a a;
  add_neg = λ a. equation (λ a b c. a ⊞ ⊟ a) (λ a b c. class 𝟘) (λ x y z. sound (plus x (negative x)) 𝟘 (plus_negative x)) a a a;
  mul_assoc = equation (λ a b c. a ⊠ b ⊠ c) (λ a b c. a ⊠ (b ⊠ c)) (λ x y z. sound (times (times x y) z) (times x (times y z)) (times_assoc x y z));
  mul_comm = λ a b. equation (λ a b c. a ⊠ b) (λ a b c. b ⊠ a) (λ x y z. sound (times x y) (times y x) (times_comm x y)) a b a;
  mul_one = λ a. equation (λ a b c. a ⊠ class 𝟙) (λ a b c. a) (λ x y z. sound (times x 𝟙) x (times_one x)) a a a;
  distrib = equation (λ a b c. (a ⊞ b) ⊠ c) (λ a b c. a ⊠ c ⊞ b ⊠ c) (λ x y z. sound (times (plus x y) z) (plus (times x z) (times y z)) (plus_times x y z));
}

-- ---- the value of a fraction

pub val : Fraction → rationals.F
unfolding rationals
val = class

pub val_zero : val 𝟘 ≡ rationals.𝟎
unfolding rationals val
val_zero = refl

pub val_one : val 𝟙 ≡ rationals.𝟏
unfolding rationals val
val_one = refl

pub val_plus : (x y : Fraction) → val (plus x y) ≡ rationals.◌⊕◌ (val x) (val y)
unfolding rationals val ◌⊞◌ Quotient.lift₂
val_plus x y = refl

pub val_times : (x y : Fraction) → val (times x y) ≡ rationals.◌⊗◌ (val x) (val y)
unfolding rationals val ◌⊠◌ Quotient.lift₂
val_times x y = refl

-- two fractions have one value where they are equal as fractions, and only there
pub equal : (x y : Fraction) → x ≈ y → val x ≡ val y
unfolding rationals val
equal = sound

pub as_fractions : (x y : Fraction) → val x ≡ val y → x ≈ y
unfolding rationals val
as_fractions x y h = Quotient.exact equality (λ a b. ℤ_set (a.numerator *ℤ D b) (b.numerator *ℤ D a)) {a = x} {b = y} h
