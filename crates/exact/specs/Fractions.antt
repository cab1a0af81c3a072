-- Exact fractions as a number form: a whole numerator over a positive whole denominator. Fractions are not reduced, so two of them are compared by _≈_. Below
-- stand computed lines for the operations.
use Rattle.std.specs.Prelude.{◌≡◌, refl, Bool, true, false, not, [], ◌∷◌, ℕ, zero, suc, ◌*◌, ◌<◌, leb, eqb, ℤ, pos, negsuc, neg_ℤ, nat_abs, ◌+ℤ◌, ◌*ℤ◌}
use Rattle.std.proofs.Common.{zero-lt-suc, mul-pos}
use Rattle.numbers.specs.NumberForm.{NumberForm}

pub record Fraction : Type 0 where
  pub numerator : ℤ
  pub denominator : ℕ
  pub positive : 0 < denominator

-- equal as fractions: a/b and c/d with a × d = c × b
infix 40 ◌≈◌
abbrev pub ◌≈◌ : Fraction → Fraction → Type 0
x ≈ y = x.numerator *ℤ pos y.denominator ≡ y.numerator *ℤ pos x.denominator

-- a / (d + 1)
abbrev pub over : ℤ → ℕ → Fraction
over a d = record { numerator = a; denominator = suc d; positive = zero-lt-suc d }

-- a / b of whole numbers, where b is not 0, and else o
abbrev pub quotient : Fraction → ℤ → ℤ → Fraction
quotient o a (pos zero) = o
quotient o a (pos (suc d)) = over a d
quotient o a (negsuc d) = over (neg_ℤ a) d

-- a ≤ b and a = 0, of whole numbers
abbrev pub whole_at_most : ℤ → ℤ → Bool
whole_at_most (pos a) (pos b) = leb a b
whole_at_most (pos a) (negsuc b) = false
whole_at_most (negsuc a) (pos b) = true
whole_at_most (negsuc a) (negsuc b) = leb b a

abbrev pub whole_is_zero : ℤ → Bool
whole_is_zero (pos a) = eqb a 0
whole_is_zero (negsuc a) = false

abbrev pub plus : Fraction → Fraction → Fraction
plus x y = record {
  numerator = x.numerator *ℤ pos y.denominator +ℤ y.numerator *ℤ pos x.denominator;
  denominator = x.denominator * y.denominator;
  positive = mul-pos x.positive y.positive;
}

abbrev pub negative : Fraction → Fraction
negative x = record { numerator = neg_ℤ x.numerator; denominator = x.denominator; positive = x.positive }

abbrev pub times : Fraction → Fraction → Fraction
times x y = record {
  numerator = x.numerator *ℤ y.numerator;
  denominator = x.denominator * y.denominator;
  positive = mul-pos x.positive y.positive;
}

-- x / y, and o where y is 0
abbrev pub divided_by : Fraction → Fraction → Fraction → Fraction
divided_by o x y = quotient o (x.numerator *ℤ pos y.denominator) (y.numerator *ℤ pos x.denominator)

abbrev pub magnitude : Fraction → Fraction
magnitude x = record { numerator = pos (nat_abs x.numerator); denominator = x.denominator; positive = x.positive }

abbrev pub at_most : Fraction → Fraction → Bool
at_most x y = whole_at_most (x.numerator *ℤ pos y.denominator) (y.numerator *ℤ pos x.denominator)

abbrev pub whole : ℕ → Fraction
whole n = over (pos n) 0

-- Over fractions x / y has no value where y is 0, nor has an entry before it is written. What stands for them is left open: the theorem holds whatever it is.
pub record Undefined : Type 0 where
  pub over_zero : Fraction → Fraction → Fraction
  pub absent : Fraction

-- Every fraction is finite.
abbrev pub fractions : Undefined → NumberForm
fractions undefined = record {
  Value = Fraction;
  zero = whole 0;
  one = whole 1;
  neg = negative;
  add = plus;
  sub = λ x y. plus x (negative y);
  mul = times;
  div = λ x y. divided_by (undefined.over_zero x y) x y;
  abs = magnitude;
  le = at_most;
  lt = λ x y. not (at_most y x);
  is_zero = λ x. whole_is_zero x.numerator;
  is_finite = λ x. true;
  absent = undefined.absent;
}

-- a / b, for worked examples
abbrev pub ratio : ℕ → ℕ → Fraction
ratio a b = quotient (whole 0) (pos a) (pos b)

-- ---- the operations, computed

module _ (undefined : Undefined) where
  open fractions undefined use {add, sub, mul, div, abs, le, lt, is_zero}

  pub record FractionTable : Type 0 where
    not_reduced : ratio 2 4 ≈ ratio 1 2
    sum : add (ratio 1 2) (ratio 1 3) ≈ ratio 5 6
    difference : sub (ratio 1 2) (ratio 2 3) ≈ negative (ratio 1 6)
    multiple : mul (negative (ratio 1 2)) (ratio 2 3) ≈ negative (ratio 1 3)
    division : div (negative (ratio 1 2)) (negative (ratio 2 3)) ≈ ratio 3 4
    division_by_zero : div (whole 3) (whole 0) ≡ undefined.over_zero (whole 3) (whole 0)
    magnitudes : (abs (negative (ratio 1 2)) ≈ ratio 1 2) × (abs (ratio 1 2) ≈ ratio 1 2)
    order : le (ratio 1 3) (ratio 1 2) ∷ le (ratio 1 2) (ratio 1 3) ∷ le (ratio 2 4) (ratio 1 2) ∷ [] ≡ true ∷ false ∷ true ∷ []
    negative_order : le (negative (ratio 1 2)) (negative (ratio 1 3)) ∷ le (negative (ratio 1 3)) (negative (ratio 1 2)) ∷ [] ≡ true ∷ false ∷ []
    strict_order : lt (ratio 1 3) (ratio 1 2) ∷ lt (ratio 2 4) (ratio 1 2) ∷ lt (negative (whole 1)) (whole 1) ∷ lt (whole 1) (negative (whole 1)) ∷ []
        ≡ true ∷ false ∷ true ∷ false ∷ []
    zeros : is_zero (whole 0) ∷ is_zero (whole 1) ∷ is_zero (negative (whole 1)) ∷ [] ≡ true ∷ false ∷ false ∷ []

  pub fraction_table : FractionTable
  fraction_table = record {
    not_reduced = refl;
    sum = refl;
    difference = refl;
    multiple = refl;
    division = refl;
    division_by_zero = refl;
    magnitudes = (refl, refl);
    order = refl;
    negative_order = refl;
    strict_order = refl;
    zeros = refl;
  }
