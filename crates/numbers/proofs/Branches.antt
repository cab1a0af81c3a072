-- The pair step and its application along each way through the code's tests, over any number form.
use mathlib.Core.Path.{◌≡◌, refl}
use mathlib.Core.Bool.{Bool, true, false, cond}
use Rattle.numbers.specs.NumberForm.{NumberForm}
use Rattle.numbers.specs.PairStep.{step_of, pair_step, first, second}

module _ (N : NumberForm) where
  open N use {Value, zero as 𝟎, neg, add, mul, div, abs, le, is_zero}

  -- p and q are |x| and |y|, however they were found
  module _ (t x y p q : Value) (P : p ≡ abs x) (Q : q ≡ abs y) where
    -- a says whether |x| ≥ |y|, and b whether the larger is at most t
    pub along : (a b : Bool) → le q p ≡ a → le (cond a p q) t ≡ b
        → cond a (cond b (step_of 𝟎 false 𝟎) (step_of x false (div (neg y) x))) (cond b (step_of 𝟎 false 𝟎) (step_of y true (div (neg x) y))) ≡ pair_step N t x y
    unfolding pair_step
    along true b h k = rw (← P, ← Q, h, k)
    along false b h k = rw (← P, ← Q, h, k)

  -- where the exchange (t true) and its absence meet
  pub met_after : (s t : Bool) (a b a' b' : Value) → s ≡ t → a' ≡ cond t b a → b' ≡ cond t a b → (a' ≡ first N s a b) × (b' ≡ first N s b a)
  unfolding first
  met_after s t a b a' b' h p q = rw (h, p, q) (refl, refl)

  -- and the addition after it
  module _ (s : Bool) (m a b a' b' : Value) (met : (a' ≡ first N s a b) × (b' ≡ first N s b a)) where
    pub added : is_zero m ≡ false → (a' ≡ first N s a b) × (add b' (mul m a') ≡ second N s m a b)
    unfolding first second
    added h = (met.0, rw (h, met.0, met.1))

    pub not_added : is_zero m ≡ true → (a' ≡ first N s a b) × (b' ≡ second N s m a b)
    unfolding first second
    not_added h = (met.0, rw (h, met.1))
