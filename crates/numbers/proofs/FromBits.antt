-- Absolute value and finiteness from the bits, in either format: a pattern without its sign's bit is that of the absolute value, and a value is finite
-- exactly if the exponent's field is not all ones.
use mathlib.Core.Path.{◌≡◌, refl, sym, ap, ◌∙◌, subst}
use Prim.Native.Nat.{ℕ, zero, suc, ◌+◌, ◌-◌, ◌/◌, ◌%◌}
use native.Mathlib.Nat.{mod-lt, mod-mod, mod-mod_of_dvd, dvd-mul_right, mul-pos, zero-lt-suc}
use mathlib.Core.Bool.{Bool, true, false, not, cond, true≢false}
use lib.Dec.{T as So, leb, eqb}
use lib.Arith.{lt→nleb}
use lib.Pow.{pow_pos}
use lib.Ieee.{Float, nan, inf, fin, Format, binary32, binary64, prec, low, odd, fits, is_nan, ne, hid, ones, top, of_fields, of_bits, nan_bits, to_bits}
use lib.Ieee.Bits.{is_false, of_bits-to_bits, nan_bits_is}
use lib.Ieee.Scale.{finite}
use lib.Ieee.Compare.{differs_from_itself, nan_differs}
use Rattle.numbers.specs.NumberForm.{absolute}

pub odd_absolute : (d : ℕ) (s : Bool) (q k l : ℕ) → absolute (odd d s q k l) ≡ odd d false q k l
unfolding odd absolute
odd_absolute d s zero k l = refl
odd_absolute d s (suc q) k l = refl

pub cond_absolute : (b : Bool) (x y : Float) {x' y' : Float} → absolute x ≡ x' → absolute y ≡ y' → absolute (cond b x y) ≡ cond b x' y'
cond_absolute true x y p q = p
cond_absolute false x y p q = q

fields_absolute : (f : Format) (s : Bool) (x t : ℕ) → absolute (of_fields f s x t) ≡ of_fields f false x t
unfolding of_fields
fields_absolute f s zero t = odd_absolute (prec f) s t 0 (low f)
fields_absolute f s (suc x) t =
    cond_absolute (eqb (suc x) (ones f)) (cond (eqb t 0) (inf s) nan) (odd (prec f) s (hid f + t) x (low f))
    (cond_absolute (eqb t 0) (inf s) nan (unfold absolute in refl) (unfold absolute in refl))
    (odd_absolute (prec f) s (hid f + t) x (low f))

same : (f : Format) {s s' : Bool} {x x' t t' : ℕ} → s ≡ s' → x ≡ x' → t ≡ t' → of_fields f s x t ≡ of_fields f s' x' t'
same f p q r = cc

unsigned : (f : Format) (b : ℕ) → of_bits f (b % top f) ≡ absolute (of_bits f b)
unfolding of_bits
unsigned f b =
    same f (is_false (leb (top f) (b % top f)) (lt→nleb (top f) (b % top f) (mod-lt b (mul-pos (pow_pos (prec f - 1)) (zero-lt-suc (ones f))))))
    (ap (λ (n : ℕ). n / hid f) (mod-mod b (top f)))
    (mod-mod_of_dvd (hid f) b (dvd-mul_right (hid f) (suc (ones f))))
    ∙ sym (fields_absolute f (leb (top f) b) (b % top f / hid f) (b % hid f))

-- what the code computes of a value that its format holds
pub absolute_of_bits : (f : Format) (x : Float) → So (fits f x) → of_bits f (to_bits f x % top f) ≡ absolute x
absolute_of_bits f x h = unsigned f (to_bits f x) ∙ ap absolute (of_bits-to_bits f x h)

absolute_nan : (x : Float) → is_nan (absolute x) ≡ is_nan x
unfolding absolute is_nan
absolute_nan nan = refl
absolute_nan (inf s) = refl
absolute_nan (fin s m e) = refl

pub absolute_bits_number : (f : Format) (x : Float) → So (fits f x) → So (not (is_nan x)) → So (not (nan_bits f (to_bits f x % top f)))
absolute_bits_number f x h n = subst (λ (b : Bool). So (not b)) (sym (nan_bits_is f (to_bits f x % top f) ∙ ap is_nan (absolute_of_bits f x h) ∙ absolute_nan x)) n

-- the test `x != x`
pub nan_absolute : (x : Float) → ne x x ≡ true → x ≡ absolute x
unfolding absolute
nan_absolute x e = subst (λ (z : Float). z ≡ absolute z) (sym (differs_from_itself x (subst So (sym e) tt))) refl

pub is_number : (x : Float) → ne x x ≡ false → So (not (is_nan x))
unfolding is_nan
is_number nan e = absurd (true≢false (sym nan_differs ∙ e))
is_number (inf s) e = tt
is_number (fin s m e) d = tt

-- ---- finiteness from the bits: the exponent's field is not all ones
odd_finite : (d : ℕ) (s : Bool) (q k l : ℕ) → finite (odd d s q k l) ≡ true
unfolding odd
odd_finite d s zero k l = refl
odd_finite d s (suc q) k l = refl

fields_finite : (f : Format) (s : Bool) (x t : ℕ) → finite (of_fields f s x t) ≡ not (eqb x (ones f))
unfolding of_fields
fields_finite binary32 s zero t = odd_finite (prec binary32) s t 0 (low binary32)
fields_finite binary64 s zero t = odd_finite (prec binary64) s t 0 (low binary64)
fields_finite f s (suc x) t = go (eqb (suc x) (ones f)) (eqb t 0)
  where
    go : (a b : Bool) → finite (cond a (cond b (inf s) nan) (odd (prec f) s (hid f + t) x (low f))) ≡ not a
    go true true = refl
    go true false = refl
    go false b = odd_finite (prec f) s (hid f + t) x (low f)

pub finite_of_bits : (f : Format) (x : Float) → So (fits f x) → not (eqb (to_bits f x % top f / hid f) (ones f)) ≡ finite x
unfolding of_bits
finite_of_bits f x h =
    let b = to_bits f x in
    sym (fields_finite f (leb (top f) b) (b % top f / hid f) (b % hid f)) ∙ ap finite (of_bits-to_bits f x h)

pub nan_not_finite : (x : Float) → ne x x ≡ true → false ≡ finite x
nan_not_finite x e = subst (λ (z : Float). false ≡ finite z) (sym (differs_from_itself x (subst So (sym e) tt))) refl
