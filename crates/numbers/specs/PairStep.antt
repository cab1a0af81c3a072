-- Document 01's pair step (`elementary`) and how it is applied to a further pair, over any number form. Below them stand the bench table's rows on pairs,
-- with computed lines for what those rows don't tell apart, as one finite check.
use Rattle.std.specs.Prelude.{◌≡◌, refl, Bool, true, false, ◌+◌, ◌^◌, pos, negsuc, T as So, Float}
use Rattle.std.proofs.Math.Bool.{cond}
use Rattle.std.specs.Float.{nan, inf, fin, Format, binary32, binary64}
use Rattle.std.specs.Float.Ieee.{neg, add, mul, div, le, eq, of_bits}
use Rattle.std.specs.Float.Ieee.Scale.{finite}
use Rattle.numbers.specs.NumberForm.{NumberForm, nearest, absolute, zero_of, one_of, ieee, double, whole}
use Rattle.numbers.specs.Tolerances.{managed_epsilon, zero_based_epsilon, update_tiny, managed_tiny, zero_based_tiny}

-- what a pair step gives: the new x, swap and the multiplier m. The new y is always +0
pub record Step (A : Type 0) : Type 0 where
  pub x : A
  pub swap : Bool
  pub multiplier : A

abbrev pub step_of : {A : Type 0} → A → Bool → A → Step A
step_of x swap multiplier = record { x = x; swap = swap; multiplier = multiplier }

module _ (N : NumberForm) where
  open N use {Value, zero as 𝟎, neg, add, mul, div, abs, le, is_zero}

  -- If |x| ≥ |y|: when |x| ≤ T, x becomes +0 with m = +0; otherwise m = (−y)/x. If not: when |y| ≤ T, x becomes +0 with m = +0; otherwise m = (−x)/y,
  -- x takes y's value, and swap is set.
  unfoldable pub pair_step : Value → Value → Value → Step Value
  pair_step T x y =
      cond (le (abs y) (abs x))
      (cond (le (abs x) T) (step_of 𝟎 false 𝟎) (step_of x false (div (neg y) x)))
      (cond (le (abs y) T) (step_of 𝟎 false 𝟎) (step_of y true (div (neg x) y)))

  -- Applied to a further pair: exchange if swap is set, then if m ≠ 0 the second becomes second + (m × first).
  unfoldable pub first : Bool → Value → Value → Value
  first swap a b = cond swap b a

  unfoldable pub second : Bool → Value → Value → Value → Value
  unfolding first
  second swap m a b = cond (is_zero m) (first swap b a) (add (first swap b a) (mul m (first swap a b)))

-- −1 ≤ m ≤ 1, so m is no NaN. `So b` says that b is true; the library's name for it is T, which here is the tolerance
abbrev pub Within : Float → Type 0
Within m = So (le (fin true 1 (pos 0)) m) × So (le m (fin false 1 (pos 0)))

-- what `elementary` leaves of x and y, with the guard t: the pair step, y cleared, and for finite x and y the bound of the multiplier
pub record Stepped (f : Format) (t x y x' y' : Float) (swap : Bool) (multiplier : Float) : Type 0 where
  pub step : step_of x' swap multiplier ≡ pair_step (ieee f) t x y
  pub cleared : y' ≡ (ieee f).zero
  pub bounded : So (finite x) → So (finite y) → So (le (ieee f).zero t) → Within multiplier

-- ---- the bench table's rows on pairs

abbrev step : Float → Float → Float → Step Float
step = pair_step (ieee binary64)

-- the four rows, for one guard
pub record Pairs (t : Float) : Type 0 where
  four_two : step t (whole 4) (whole 2) ≡ step_of (whole 4) false (neg (double 1 2))
  one_minus_two : step t (whole 1) (neg (whole 2)) ≡ step_of (neg (whole 2)) true (double 1 2)
  three_minus_three : step t (whole 3) (neg (whole 3)) ≡ step_of (whole 3) false (whole 1)
  nan_zero : step t nan (whole 0) ≡ step_of (whole 0) false (whole 0)

pub record PairTable : Type 0 where
  pub managed : Pairs (managed_tiny binary64)
  pub zero_based : Pairs zero_based_tiny
  -- 0.0 and 1.0 are +0 and 1
  literals : (zero_of binary32 ≡ whole 0) × (zero_of binary64 ≡ whole 0) × (one_of binary32 ≡ whole 1) × (one_of binary64 ≡ whole 1)
  -- the constants as doubles: E is 2^-52 in one interface and not in the other
  epsilon : managed_epsilon binary64 ≡ fin false 1 (negsuc 51)
  precision : zero_based_epsilon ≡ fin false 4502694932010671 (negsuc 103)
  ten_thousandth : update_tiny binary64 ≡ fin false 7378697629483821 (negsuc 65)
  -- |x| = T is not above T, on either side of the first test
  at_guard : step (whole 2) (whole 2) (whole 1) ≡ step_of (whole 0) false (whole 0)
  at_guard_second : step (whole 2) (whole 1) (whole 2) ≡ step_of (whole 0) false (whole 0)
  -- with a NaN for its guard, or a negative one, two zeros give 0 / 0
  unguarded : step nan (whole 0) (whole 0) ≡ step_of (whole 0) false nan
  below_guard : step (neg (whole 1)) (whole 0) (whole 0) ≡ step_of (whole 0) false nan
  -- m × first is rounded before the sum: with m and first 1 + 2^-27 and second −(1 + 2^-26), the 2^-54 of the product is lost
  two_roundings : second (ieee binary64) false (double (2 ^ 27 + 1) (2 ^ 27)) (double (2 ^ 27 + 1) (2 ^ 27)) (neg (double (2 ^ 26 + 1) (2 ^ 26))) ≡ whole 0
  -- a zero multiplier adds nothing, so an infinite first stays out of the second
  zero_multiplier : second (ieee binary64) true (neg (whole 0)) (whole 3) (inf false) ≡ whole 3

pub pair_table : PairTable
unfolding nearest pair_step first second absolute neg add mul div le eq of_bits managed_epsilon zero_based_epsilon update_tiny
pair_table = record {
  managed = record { four_two = refl; one_minus_two = refl; three_minus_three = refl; nan_zero = refl };
  zero_based = record { four_two = refl; one_minus_two = refl; three_minus_three = refl; nan_zero = refl };
  literals = (refl, refl, refl, refl);
  epsilon = refl;
  precision = refl;
  ten_thousandth = refl;
  at_guard = refl;
  at_guard_second = refl;
  unguarded = refl;
  below_guard = refl;
  two_roundings = refl;
  zero_multiplier = refl;
}
