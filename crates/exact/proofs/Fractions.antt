-- The steps over exact fractions are what ExactLaws asks for, whatever a division by zero and an absent entry give.
use mathlib.Core.Path.{◌≡◌, refl, sym, ap, subst, ◌∙◌}
use mathlib.Core.Bool.{Bool, true, false, true≢false, false≢true, cond}
use mathlib.Core.Logic.{◌≢◌}
use Prim.Native.Nat.{ℕ, zero, suc, ◌*◌, ◌≤◌, ◌<◌}
use native.Mathlib.Omega.{arith}
use lib.IntN.{ℤ, pos, negsuc, neg_ℤ, nat_abs, ◌*ℤ◌, zero-*ℤ, *ℤ_comm, *ℤ-negsuc, neg_ℤ-neg_ℤ}
use borrow.Author.Tests.{leb-true, eqb-true, le-leb, not-false}
use Rattle.numbers.specs.NumberForm.{NumberForm}
use Rattle.numbers.specs.PairStep.{Step, step_of, pair_step, first, second}
use Rattle.machine.specs.Forward.{forward_acts}
use Rattle.machine.specs.Backward.{negligible, backward_skips}
use Rattle.exact.specs.Fractions.{Fraction, ◌≈◌, quotient, whole_at_most, whole_is_zero, plus, negative, times, divided_by, magnitude, at_most, Undefined, fractions}
use Rattle.exact.proofs.Integers.{*ℤ_assoc, neg_*ℤ, factor_zero}
use Rattle.exact.proofs.Rationals.{D, 𝟘, ≈_trans, plus_same, plus_zero, plus_negative, numerator_zero, rationals, val, val_zero, val_one, val_plus, val_times, equal, as_fractions}
use Rattle.exact.proofs.Elimination.{ExactLaws}

-- ---- the tests

absolute_zero : (a : ℤ) (d e : ℕ) → 0 < d → nat_abs a * d ≤ 0 * e → a ≡ pos 0
absolute_zero (pos zero) d e p h = refl
absolute_zero (pos (suc n)) d e p h = absurd (omega arith)
absolute_zero (negsuc n) d e p h = absurd (omega arith)

-- what is in magnitude at most zero is zero
at_most_zero : (x m : Fraction) → m.numerator ≡ pos 0 → at_most (magnitude x) m ≡ true → x.numerator ≡ pos 0
at_most_zero x m e h =
    absolute_zero x.numerator m.denominator x.denominator m.positive
    (leb-true (nat_abs x.numerator * m.denominator) (0 * x.denominator)
    (subst (λ (t : ℤ). whole_at_most (pos (nat_abs x.numerator * m.denominator)) (t *ℤ D x) ≡ true) e h))

-- and zero is at most any magnitude
zero_at_most : (x m : Fraction) → x.numerator ≡ pos 0 → at_most (magnitude x) (magnitude m) ≡ true
zero_at_most x m e =
    subst (λ (t : ℤ). whole_at_most (pos (nat_abs t * m.denominator)) (pos (nat_abs m.numerator) *ℤ D x) ≡ true) (sym e)
    (le-leb (0 * m.denominator) (nat_abs m.numerator * x.denominator) (omega arith))

is_zero_lem : (a : ℤ) → whole_is_zero a ≡ true → a ≡ pos 0
is_zero_lem (pos n) h = ap pos (eqb-true n 0 h)
is_zero_lem (negsuc n) h = absurd (false≢true h)

-- ---- division by what is not zero

module _ (o : Fraction) where
  quotient_law : (a b : ℤ) → b ≢ pos 0 → (quotient o a b).numerator *ℤ b ≡ a *ℤ D (quotient o a b)
  quotient_law a (pos zero) h = absurd (h refl)
  quotient_law a (pos (suc d)) h = refl
  quotient_law a (negsuc d) h = neg_*ℤ a (negsuc d) ∙ ap neg_ℤ (*ℤ-negsuc a d) ∙ neg_ℤ-neg_ℤ (a *ℤ pos (suc d))

  division_law : (z x : Fraction) → x.numerator ≢ pos 0 → times (divided_by o z x) x ≈ z
  division_law z x h =
      let q = divided_by o z x in
      *ℤ_assoc q.numerator x.numerator (D z)
      ∙ quotient_law (z.numerator *ℤ D x) (x.numerator *ℤ D z) (λ e. h (factor_zero x.numerator z.denominator z.positive e))
      ∙ *ℤ_assoc z.numerator (D x) (D q)
      ∙ ap (λ (t : ℤ). z.numerator *ℤ t) (*ℤ_comm (D x) (D q))

  -- z with m = (−z)/x times x added to it, and nothing added where m is zero
  eliminated : (z x : Fraction) → x.numerator ≢ pos 0
      → let m = divided_by o (negative z) x in cond (whole_is_zero m.numerator) z (plus z (times m x)) ≈ 𝟘
  eliminated z x h = go (whole_is_zero m.numerator) (is_zero_lem m.numerator)
    where
      m : Fraction
      m = divided_by o (negative z) x

      total : plus z (times m x) ≈ 𝟘
      total = ≈_trans (plus z (times m x)) (plus z (negative z)) 𝟘 (plus_same z (times m x) z (negative z) refl (division_law (negative z) x h)) (plus_negative z)

      go : (b : Bool) → (b ≡ true → m.numerator ≡ pos 0) → cond b z (plus z (times m x)) ≈ 𝟘
      go false e = total
      go true e =
          let g : times m x ≈ 𝟘 = numerator_zero (times m x) (ap (λ (u : ℤ). u *ℤ x.numerator) (e refl) ∙ zero-*ℤ x.numerator) in
          ≈_trans z (plus z (times m x)) 𝟘 (sym (≈_trans (plus z (times m x)) (plus z 𝟘) z (plus_same z (times m x) z 𝟘 refl g) (plus_zero z))) total

module _ (undefined : Undefined) where
  -- ---- the pair step

  abbrev N : NumberForm
  N = fractions undefined

  abbrev Exact : Fraction → Fraction → Step Fraction → Type 0
  Exact x y p = (p.x ≈ first N p.swap x y) × (second N p.swap p.multiplier x y ≈ 𝟘)

  -- It divides by what is not zero: by the greater in magnitude, if that is not at most T.
  pair_exact : (x y : Fraction) → Exact x y (pair_step N 𝟘 x y)
  unfolding pair_step first second
  pair_exact x y = go (at_most (magnitude y) (magnitude x)) (at_most (magnitude x) 𝟘) (at_most (magnitude y) 𝟘) refl refl refl
    where
      go : (a b c : Bool) → at_most (magnitude y) (magnitude x) ≡ a → at_most (magnitude x) 𝟘 ≡ b → at_most (magnitude y) 𝟘 ≡ c
          → Exact x y (cond a (cond b (step_of 𝟘 false 𝟘) (step_of x false (N.div (negative y) x))) (cond c (step_of 𝟘 false 𝟘) (step_of y true (N.div (negative x) y))))
      go true true c ea eb ec =
          let hx = at_most_zero x 𝟘 refl eb in
          (sym (numerator_zero x hx), numerator_zero y (at_most_zero y (magnitude x) (ap (λ (t : ℤ). pos (nat_abs t)) hx) ea))
      go true false c ea eb ec = (refl, eliminated (undefined.over_zero (negative y) x) y x (λ e. true≢false (sym (zero_at_most x 𝟘 e) ∙ eb)))
      go false b true ea eb ec = absurd (true≢false (sym (zero_at_most y x (at_most_zero y 𝟘 refl ec)) ∙ ea))
      go false b false ea eb ec = (refl, eliminated (undefined.over_zero (negative x) y) x y (λ e. true≢false (sym (zero_at_most y 𝟘 e) ∙ ec)))

  -- ---- what ExactLaws asks for

  zero_value : (x : Fraction) → x ≈ 𝟘 → val x ≡ rationals.𝟎
  zero_value x h = equal x 𝟘 h ∙ val_zero

  -- |x| ≤ m with m zero
  within_zero : (x m : Fraction) → m.numerator ≡ pos 0 → at_most (magnitude x) m ≡ true → val x ≡ rationals.𝟎
  within_zero x m e h = zero_value x (numerator_zero x (at_most_zero x m e h))

  pub laws : ExactLaws N
  unfolding forward_acts backward_skips negligible
  laws = record {
    ring = rationals;
    val = val;
    val_zero = val_zero;
    val_one = val_one;
    val_add = val_plus;
    val_mul = val_times;
    is_zero_lem = λ x h. zero_value x (numerator_zero x (is_zero_lem x.numerator h));
    pair_first = λ x y. equal (pair_step N 𝟘 x y).x (first N (pair_step N 𝟘 x y).swap x y) (pair_exact x y).0;
    pair_second = λ x y. zero_value (second N (pair_step N 𝟘 x y).swap (pair_step N 𝟘 x y).multiplier x y) (pair_exact x y).1;
    forward_skips = λ u x h. within_zero x (times 𝟘 (magnitude u)) (zero-*ℤ (magnitude u).numerator) (not-false (at_most (magnitude x) (times 𝟘 (magnitude u))) h);
    backward_skips_lem = λ u x h. within_zero x (times 𝟘 (magnitude u)) (zero-*ℤ (magnitude u).numerator) h;
    trimmed = λ x h. within_zero x 𝟘 refl h;
  }

  -- one value is equality as fractions
  pub laws_equal : (x y : Fraction) → x ≈ y → laws.val x ≡ laws.val y
  unfolding laws
  laws_equal = equal

  pub laws_as_fractions : (x y : Fraction) → laws.val x ≡ laws.val y → x ≈ y
  unfolding laws
  laws_as_fractions = as_fractions
