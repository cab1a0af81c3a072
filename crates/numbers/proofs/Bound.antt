-- For finite x and y the multiplier of a pair step lies within −1 and 1, in either format: a fraction of two magnitudes in order is at most 1 / 1, and
-- `round` keeps the order. The guard t has to be a number that is not negative, as both T's are: at x = y = 0 any other t lets 0 / 0 through (`unguarded` in PairStep).
use mathlib.Core.Path.{◌≡◌, refl, sym, ap, ◌∙◌, subst}
use mathlib.Core.Logic.{inl, inr}
use Prim.Native.Nat.{ℕ, suc, ◌+◌, ◌*◌, ◌^◌, ◌≤◌, ◌<◌, zero-le}
use native.Mathlib.Nat.{le_of_lt, le_of_eq, lt_of_le_of_lt, lt_of_not-le, lt_irrefl, zero-lt-suc, eq-zero-or-pos, eq-or-lt_of_le, zero-mul, mul-pos}
use native.Mathlib.Omega.{arith}
use mathlib.Core.Bool.{Bool, true, false, not, ◌&&◌, ◌||◌, cond}
use lib.IntN.{ℤ, pos}
use lib.Dec.{T as So, ltb, eqb, eqb→eq, ltb→lt, lt→ltb, not_T, T_not}
use lib.Ieee.{Float, nan, inf, fin, Format, binary32, binary64, prec, emax, low, unlike, up, down, odd, units, round, neg, mul, div, le, of_bits}
use lib.Ieee.Fits.{up_pos, down_pos, eq→eqb, and_i, and_l}
use lib.Ieee.Bits.{cond_no}
use lib.Ieee.Order.{round_mono}
use lib.Ieee.Positive.{first_pos}
use lib.Ieee.Scale.{finite}
use Rattle.numbers.specs.NumberForm.{absolute, zero_of, ieee}
use Rattle.numbers.specs.PairStep.{Step, step_of, pair_step, Within, Stepped}
use Rattle.numbers.specs.Tolerances.{managed_epsilon, zero_based_epsilon, update_tiny, managed_tiny, zero_based_tiny}
use Rattle.numbers.proofs.FromBits.{odd_absolute, cond_absolute}

abbrev +0 : Float
+0 = fin false 0 (pos 0)

abbrev +1 : Float
+1 = fin false 1 (pos 0)

zero_is : (f : Format) → zero_of f ≡ +0
unfolding of_bits
zero_is binary32 = refl
zero_is binary64 = refl

-- ---- a fraction of at most 1 rounds to a magnitude of at most 1

-- the sign does not change what a fraction rounds to
round_absolute : (f : Format) (s : Bool) (a b : ℕ) → absolute (round f s a b) ≡ round f false a b
unfolding round units
round_absolute f s a b = units_absolute _ _
  where
    units_absolute : (q k : ℕ) → absolute (units f s q k) ≡ units f false q k
    units_absolute q k =
        cond_absolute (ltb (q * 2 ^ k) (2 ^ (low f + suc (emax f)))) (odd (suc (prec f)) s q k (low f)) (inf s) (odd_absolute (suc (prec f)) s q k (low f)) (unfold absolute in refl)

one_rounds : (f : Format) → round f false 1 1 ≡ +1
unfolding round
one_rounds binary32 = refl
one_rounds binary64 = refl

round_le_one : (f : Format) (s : Bool) (a b : ℕ) → 0 < b → a ≤ b → So (le (absolute (round f s a b)) +1)
round_le_one f s a b B h =
    subst (λ (z : Float). So (le z +1)) (sym (round_absolute f s a b))
    (subst (λ (z : Float). So (le (round f false a b) z)) (one_rounds f) (round_mono f a b 1 1 B (zero-lt-suc 0) (omega arith)))

-- ---- the tests of `le` at two numbers of one sign

or_l : (a b : Bool) → So a → So (a || b)
or_l true b t = tt
or_l false b t = absurd t

or_r : (a b : Bool) → So b → So (a || b)
or_r true b t = tt
or_r false b t = t

le→ : (a b : ℕ) → So (ltb a b || (eqb a b && true)) → a ≤ b
le→ a b = go (ltb a b) (eqb a b) (ltb→lt a b) (eqb→eq a b)
  where
    go : (p q : Bool) → (So p → a < b) → (So q → a ≡ b) → So (p || (q && true)) → a ≤ b
    go true q h k t = le_of_lt (h tt)
    go false q h k t = le_of_eq (k (and_l q true t))

-- c and d are a and b, in either order
→le : (a b c d : ℕ) → a ≤ b → (a ≡ b → c ≡ d) → So (ltb a b || (eqb c d && true))
→le a b c d h e =
    elim (eq-or-lt_of_le h) [
      | inl p ↦ or_r (ltb a b) (eqb c d && true) (and_i (eqb c d) true (eq→eqb (e p)) tt)
      | inr q ↦ or_l (ltb a b) (eqb c d && true) (lt→ltb a b q)
    ]

gt→ : (a b : ℕ) → So (not (ltb a b || (eqb a b && true))) → b < a
gt→ a b n = lt_of_not-le (λ (h : a ≤ b). T_not (ltb a b || (eqb a b && true)) n (→le a b a b h (λ e. e)))

-- ---- |z| ≤ 1 is −1 ≤ z ≤ 1
within : (z : Float) → So (le (absolute z) +1) → Within z
unfolding absolute le
within nan h = absurd h
within (inf s) h = absurd h
within (fin false k c) h =
    (or_l (ltb 0 (1 * down c + k * up c * 1)) _ (lt→ltb 0 (1 * down c + k * up c * 1) (omega (arith, down_pos c))), h)
within (fin true k c) h = (
  →le (k * up c * 1) (1 * down c) (1 * down c) (k * up c * 1) (le→ (k * up c * 1) (1 * down c) h) sym,
  or_l (ltb 0 (k * up c * 1 + 1 * down c)) _ (lt→ltb 0 (k * up c * 1 + 1 * down c) (omega (arith, down_pos c))),
)

-- the quotient of two finite values, the second no smaller in magnitude and no zero
quotient : (f : Format) (s : Bool) (m : ℕ) (e : ℤ) (u : Bool) (n : ℕ) (d : ℤ) → 0 < n → m * up e * down d ≤ n * up d * down e → Within (div f (fin s m e) (fin u n d))
unfolding div
quotient f s m e u n d N h =
    let a = m * up e * down d in
    let b = n * up d * down e in
    let r = round f (unlike s u) a b in
    subst Within (sym (cond_no (eqb n 0) (cond (eqb m 0) nan (inf (unlike s u))) r (not_T (eqb n 0) (λ t. lt_irrefl 0 (subst (λ (k : ℕ). 0 < k) (eqb→eq n 0 t) N)))))
    (within r (round_le_one f (unlike s u) a b (mul-pos (mul-pos N (up_pos d)) (down_pos e)) h))

-- ---- the guard keeps a zero from being divided by
zero_times : (a b : ℕ) → 0 * a * b ≡ 0
zero_times a b = omega arith

zero_under : (e : ℤ) (t : Float) → So (le +0 t) → So (le (fin false 0 e) t)
unfolding le
zero_under e nan h = absurd h
zero_under e (inf v) h = h
zero_under e (fin false k c) h = →le (0 * up e * down c) (k * up c * down e) (0 * up e * down c) (k * up c * down e) (omega (arith, zero_times (up e) (down c))) (λ p. p)
zero_under e (fin true k c) h =
    let z : k * up c ≡ 0 = omega (arith, eqb→eq (0 * down c) (k * up c * 1) (and_l (eqb (0 * down c) (k * up c * 1)) (eqb (0 * down c) 0) h)) in
    and_i (eqb (0 * up e * down c) (k * up c * down e)) (eqb (0 * up e * down c) 0)
    (eq→eqb (zero_times (up e) (down c) ∙ sym (ap (λ (a : ℕ). a * down e) z ∙ zero-mul (down e)))) (eq→eqb (zero_times (up e) (down c)))

guarded : (t : Float) (m : ℕ) (e : ℤ) → So (le +0 t) → So (not (le (fin false m e) t)) → 0 < m
guarded t m e g n =
    elim (eq-zero-or-pos m) [
      | inl z ↦ absurd (T_not (le (fin false m e) t) n (subst (λ (k : ℕ). So (le (fin false k e) t)) (sym z) (zero_under e t g)))
      | inr p ↦ p
    ]

-- ---- the theorem

-- what holds of each way's multiplier holds of the one that the tests pick
each : (a b c : Bool) (o p q r : Step Float) → (So a → So b → Within o.multiplier) → (So a → So (not b) → Within p.multiplier)
    → (So (not a) → So c → Within q.multiplier) → (So (not a) → So (not c) → Within r.multiplier) → Within (cond a (cond b o p) (cond c q r)).multiplier
each true true c o p q r h k l n = h tt tt
each true false c o p q r h k l n = k tt tt
each false b true o p q r h k l n = l tt tt
each false b false o p q r h k l n = n tt tt

zero_within : (f : Format) → Within (zero_of f)
unfolding le of_bits
zero_within binary32 = (tt, tt)
zero_within binary64 = (tt, tt)

pub multiplier_within : (f : Format) (t x y : Float) → So (finite x) → So (finite y) → So (le (zero_of f) t) → Within (pair_step (ieee f) t x y).multiplier
unfolding pair_step absolute neg le
multiplier_within f t nan y p q g = absurd p
multiplier_within f t (inf s) y p q g = absurd p
multiplier_within f t (fin s m e) nan p q g = absurd q
multiplier_within f t (fin s m e) (inf u) p q g = absurd q
multiplier_within f t (fin s m e) (fin u n d) p q g =
    let X = m * up e * down d in
    let Y = n * up d * down e in
    let G : So (le +0 t) = subst (λ (z : Float). So (le z t)) (zero_is f) g in
    each (le (fin false n d) (fin false m e)) (le (fin false m e) t) (le (fin false n d) t) _ _ _ _
    (λ h k. zero_within f)
    (λ h k. quotient f (not u) n d s m e (guarded t m e G k) (le→ Y X h))
    (λ h k. zero_within f)
    (λ h k. quotient f (not s) m e u n d (first_pos n (up d) (first_pos (n * up d) (down e) (lt_of_le_of_lt zero-le (gt→ Y X h)))) (le_of_lt (gt→ Y X h)))

-- what has the pair step's result and clears y is what `elementary` promises
pub stepped : (f : Format) (t x y x' : Float) (swap : Bool) (m : Float) → step_of x' swap m ≡ pair_step (ieee f) t x y → Stepped f t x y x' (zero_of f) swap m
stepped f t x y x' swap m e = record {
  step = e;
  cleared = refl;
  bounded = λ p q g. subst (λ (s : Step Float). Within s.multiplier) (sym e) (multiplier_within f t x y p q g);
}

-- ---- for the tolerances of either interface nothing is asked of T

managed_guard : (f : Format) → So (le (zero_of f) (managed_tiny f))
unfolding mul le of_bits managed_epsilon update_tiny
managed_guard binary32 = tt
managed_guard binary64 = tt

zero_based_guard : So (le (zero_of binary64) zero_based_tiny)
unfolding mul le of_bits zero_based_epsilon update_tiny
zero_based_guard = tt

pub managed_within : (f : Format) (x y : Float) → So (finite x) → So (finite y) → Within (pair_step (ieee f) (managed_tiny f) x y).multiplier
managed_within f x y p q = multiplier_within f (managed_tiny f) x y p q (managed_guard f)

pub zero_based_within : (x y : Float) → So (finite x) → So (finite y) → Within (pair_step (ieee binary64) zero_based_tiny x y).multiplier
zero_based_within x y p q = multiplier_within binary64 zero_based_tiny x y p q zero_based_guard
