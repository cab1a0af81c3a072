-- Trimming: one turn, and where it ends.
use mathlib.Core.Path.{◌≡◌, refl, sym, ap, ◌∙◌}
use mathlib.Core.Bool.{Bool, true, false}
use mathlib.Core.List.{List}
use Prim.Native.Nat.{ℕ, zero, suc, ◌+◌, ◌-◌, ◌≤◌, ◌<◌}
use native.Mathlib.Omega.{arith}
use native.Mathlib.Decide.{dec_lt}
use lib.ListN.{length}
use borrow.Author.Tests.{lt-ltb, le-ltb}
use Rattle.numbers.specs.NumberForm.{NumberForm}
use Rattle.machine.specs.Tables.{Vector}
use Rattle.machine.specs.Products.{entry}
use Rattle.machine.specs.Backward.{negligible, trim}
use Rattle.ranges.proofs.Parts.{part, part_long, part_entry}

-- s is start, or its entry is not negligible
module _ (N : NumberForm) (E : N.Value) (v : Vector N.Value) (start s : ℕ) (ends : start < s → negligible N E (v s) ≡ false) where
  trim_stays : (last : ℕ) → s ≡ last → s ≡ trim N E start last v
  unfolding trim
  trim_stays zero e = e
  trim_stays (suc last) e = e ∙ elim (dec_lt start s) [
    | yes h ↦ rw (lt-ltb start (suc last) (omega arith), ap (λ t. negligible N E (v t)) (sym e) ∙ ends h)
    | no h ↦ rw (le-ltb start (suc last) (omega arith))
  ]

  -- the entries above s, up to `last`, are negligible
  trim_reaches : (last : ℕ) → start ≤ s → s ≤ last → ((k : ℕ) → s < start + 1 + k → start + k < last → negligible N E (v (start + 1 + k)) ≡ true)
      → s ≡ trim N E start last v
  unfolding trim
  trim_reaches zero h g passed = omega arith
  trim_reaches (suc last) h g passed = elim (dec_lt s (suc last)) [
    | yes l ↦
        let place : start + 1 + (last - start) ≡ suc last = omega arith in
        let here = rw place at (passed (last - start) (omega arith) (omega arith)) in
        rw (lt-ltb start (suc last) (omega arith), here) (trim_reaches last h (omega arith) (λ k a b. passed k a (omega arith)))
    | no l ↦ trim_stays (suc last) (omega arith)
  ]

-- ---- one turn, and the two ways it ends

module _ (N : NumberForm) (E : N.Value) (v : Vector N.Value) (start : ℕ) where
  open N use {Value, abs, le}

  small : {a : Value} {r : Bool} (s : ℕ) → a ≡ abs (v s) → le a E ≡ r → negligible N E (v s) ≡ r
  unfolding negligible
  small s e g = (λ t. le (sym e t) E) ∙ g

  pub trim_more : {a : Value} (s : ℕ) → start < s → a ≡ abs (v s) → le a E ≡ true → trim N E start (s - 1) v ≡ trim N E start s v
  unfolding trim
  trim_more zero h e g = absurd (omega arith)
  trim_more (suc s) h e g = let q : suc s - 1 ≡ s = omega arith in rw (q, lt-ltb start (suc s) h, small (suc s) e g)

  pub trim_ends : {a : Value} (s : ℕ) → start < s → a ≡ abs (v s) → le a E ≡ false → s ≡ trim N E start s v
  trim_ends s h e g = trim_stays N E v start s (λ l. small s e g) s refl

  pub trim_at_start : (s : ℕ) → s ≤ start → s ≡ trim N E start s v
  trim_at_start s h = trim_stays N E v start s (λ l. absurd (omega arith)) s refl

-- ---- the search from the back

-- the part of v above start, up to `last`
module _ (N : NumberForm) (E : N.Value) (v : List N.Value) (start last : ℕ) (ordered : start ≤ last) (fits : last < length v) where
  open N use {Value, abs, le}

  abbrev above : List Value
  above = part N (start + 1) (last + 1) v

  long : length above ≡ last - start
  long = part_long N (start + 1) (last + 1) v (omega arith) (omega arith) ∙ omega arith

  tells : (k : ℕ) {b : Bool} → k < length above → le (abs (entry N above k)) E ≡ b → negligible N E (entry N v (start + 1 + k)) ≡ b
  unfolding negligible
  tells k h e = ap (λ x. le (abs x) E) (sym (part_entry N (start + 1) (last + 1) v k (omega arith) h)) ∙ e

  pub trim_found : (k : ℕ) → k < length above → le (abs (entry N above k)) E ≡ false
      → ((j : ℕ) → k < j → j < length above → le (abs (entry N above j)) E ≡ true)
      → start + 1 + k ≡ trim N E start last (entry N v)
  trim_found k h found passed =
      trim_reaches N E (entry N v) start (start + 1 + k) (λ l. tells k h found) last (omega arith) (omega (arith, long))
      (λ j a b. let i : j < length above = omega (arith, long) in tells j i (passed j (omega arith) i))

  pub trim_none : ((j : ℕ) → j < length above → le (abs (entry N above j)) E ≡ true) → start ≡ trim N E start last (entry N v)
  trim_none passed =
      trim_reaches N E (entry N v) start start (λ l. absurd (omega arith)) last (omega arith) ordered
      (λ j a b. let i : j < length above = omega (arith, long) in tells j i (passed j i))
