-- A value less itself, at every format: +0 where it is finite and NaN where it is not; and sums of such differences.
use mathlib.Core.Path.{◌≡◌, refl, sym, ap, ◌∙◌}
use mathlib.Core.Bool.{Bool, true, false, not, ◌&&◌, and_assoc}
use Prim.Native.Nat.{ℕ, ◌*◌, ◌<◌}
use native.Mathlib.Nat.{zero-lt-suc, zero-mul, mul-pos, le_refl, sub_self}
use lib.Dec.{ltb}
use lib.Arith.{le→nltb}
use lib.Ieee.Bits.{is_false}
use lib.IntN.{pos}
use lib.Ieee.{Float, nan, inf, fin, Format, binary32, binary64, up, down, round, sum, add, sub, eq}
use lib.Ieee.Fits.{down_pos}
use lib.Ieee.Scale.{finite, round_same}
use Rattle.finite_factors.specs.Differences.{zero_or_nan}

-- ---- one value

-- 0 / c rounds to the zero of its sign
zero_rounds : (f : Format) (s : Bool) (c : ℕ) → 0 < c → round f s 0 c ≡ fin s 0 (pos 0)
unfolding round
zero_rounds binary32 s c h = round_same binary32 s 0 c 0 1 h (zero-lt-suc 0) (sym (zero-mul c))
zero_rounds binary64 s c h = round_same binary64 s 0 c 0 1 h (zero-lt-suc 0) (sym (zero-mul c))

-- an equal magnitude of the other sign leaves +0
opposites : (f : Format) (s : Bool) (a c : ℕ) → 0 < c → sum f s a (not s) a c ≡ fin false 0 (pos 0)
unfolding sum
opposites f true a c h = rw (is_false (ltb a a) (le→nltb a a (le_refl a)), sub_self a) (zero_rounds f false c h)
opposites f false a c h = rw (is_false (ltb a a) (le→nltb a a (le_refl a)), sub_self a) (zero_rounds f false c h)

pub difference_is : (f : Format) (x : Float) → sub f x x ≡ zero_or_nan (finite x)
unfolding sub
difference_is f nan = refl
difference_is f (inf true) = refl
difference_is f (inf false) = refl
difference_is f (fin s m e) = opposites f s (m * up e * down e) (down e * down e) (mul-pos (down_pos e) (down_pos e))

-- ---- sums

pub sum_is : (f : Format) (a b : Bool) → add f (zero_or_nan a) (zero_or_nan b) ≡ zero_or_nan (a && b)
unfolding add
sum_is f false b = refl
sum_is f true false = refl
sum_is binary32 true true = refl
sum_is binary64 true true = refl

pub zero_found : (all : Bool) → eq (zero_or_nan all) (fin false 0 (pos 0)) ≡ all
unfolding eq
zero_found true = refl
zero_found false = refl

pub four_sums : (f : Format) (a b c d : Bool) → add f (add f (zero_or_nan a) (zero_or_nan b)) (add f (zero_or_nan c) (zero_or_nan d)) ≡ zero_or_nan (((a && b) && c) && d)
four_sums f a b c d = (λ t. add f (sum_is f a b t) (sum_is f c d t)) ∙ sum_is f (a && b) (c && d) ∙ ap zero_or_nan (sym (and_assoc (a && b) c d))
