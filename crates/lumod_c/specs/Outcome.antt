-- The outcome of a zero-based call, whole: the number that it returns and what it leaves in every buffer that it may write.
use Rattle.std.specs.Prelude.{◌≡◌, cond, List, ℕ, eqb, ℤ, length, Result, Ok, Err}
use Rattle.std.proofs.Math.Option.{Option, none, some}
use Rattle.numbers.specs.NumberForm.{NumberForm}
use Rattle.machine.specs.Tables.{Vector}
use Rattle.machine.specs.Products.{entry, product, product_transposed}
use Rattle.machine.specs.Solves.{back_substitution, forward_substitution}
use Rattle.machine.specs.Calls.{Answer, refusal_number}
use Rattle.storage.specs.Views.{view_l, view_u}
use Rattle.ranges.specs.Written.{Written}
use Rattle.zero_based_updates.specs.UpdateDone.{UpdateDone}
use Rattle.host_numbers.specs.Numbers.{size_of, stride_of}
use Rattle.zero_based_tests.specs.Refusals.{update_refusal, product_refusal, solve_refusal}
use Rattle.zero_based_tests.specs.Update.{update_of}
use Rattle.lumod_c.specs.declared.Refusal.{Refusal}
use Rattle.lumod_c.specs.declared.Refusal.TheVariants.{PassedOver, LacksRoom}

-- 11 where a call was passed over, 12 where a buffer is too short
abbrev pub refusal_value : Refusal → ℕ
refusal_value PassedOver = 11
refusal_value LacksRoom = 12

-- what a call returns: 0 where it was performed, or its refusal's number
abbrev pub outcome_number : Result (Unit {0}) Refusal → ℕ
outcome_number (Ok performed) = 0
outcome_number (Err refused) = refusal_value refused

-- A call that a test refuses returns the refusal's number and leaves all untouched; any other returns 0 and is performed.
pub record Outcome (refusal : Option Answer) (Untouched Performed : Type 0) (answer : ℕ) : Type 0 where
  pub number : answer ≡ refusal_number refusal
  pub refused : (r : Answer) → refusal ≡ some r → Untouched
  pub accepted : refusal ≡ none → Performed

module _ (N : NumberForm) where
  open N use {Value}

  -- mode 1 is plain, any other mode transposed
  unfoldable pub product_of : ℕ → ℕ → ℕ → List Value → List Value → Vector Value
  product_of mode c n l y = cond (eqb mode 1) (product N n (view_l N c l) (entry N y)) (product_transposed N n (view_l N c l) (entry N y))

  -- the part of a solve that divides by U's diagonal, without the L product
  unfoldable pub solve_of : ℕ → ℕ → ℕ → List Value → List Value → Vector Value
  solve_of mode c n u y = cond (eqb mode 1) (back_substitution N n (view_u N c u) (entry N y) n) (forward_substitution N (view_u N c u) (entry N y) n)

  -- `Lprod` writes the L product of y to the first n of z; y and L are only read.
  abbrev pub ProductOutcome : ℤ → ℤ → ℤ → List Value → List Value → List Value → List Value → ℕ → Type 0
  ProductOutcome mode maxmod n l y z z' answer =
      Outcome (product_refusal maxmod n (length l) (length y) (length z)) (z' ≡ z)
      (Written N (λ i. i) (size_of n) (product_of (size_of mode) (stride_of maxmod) (size_of n) l y) z z')
      answer

  -- `Usolve` runs on y, and tests no diagonal; U is only read.
  abbrev pub SolveOutcome : ℤ → ℤ → ℤ → List Value → List Value → List Value → ℕ → Type 0
  SolveOutcome mode maxmod n u y y' answer =
      Outcome (solve_refusal maxmod n (length u) (length y)) (y' ≡ y)
      (Written N (λ i. i) (size_of n) (solve_of (size_of mode) (stride_of maxmod) (size_of n) u y) y y')
      answer

  -- every buffer as it was
  pub record Untouched (l u y z w l' u' y' z' w' : List Value) : Type 0 where
    pub l_same : l' ≡ l
    pub u_same : u' ≡ u
    pub y_same : y' ≡ y
    pub z_same : z' ≡ z
    pub w_same : w' ≡ w

module _ (N : NumberForm) (E T : N.Value) where
  open N use {Value}

  -- `LUmod`
  abbrev pub UpdateOutcome : ℤ → ℤ → ℤ → ℤ → ℤ → List Value → List Value → List Value → List Value → List Value
      → List Value → List Value → List Value → List Value → List Value → ℕ → Type 0
  UpdateOutcome mode maxmod n krow kcol l u y z w l' u' y' z' w' answer =
      Outcome (update_refusal mode maxmod n krow kcol (length l) (length u) (length y) (length z) (length w)) (Untouched N l u y z w l' u' y' z' w')
      (UpdateDone N E T (update_of (size_of mode) (size_of krow) (size_of kcol)) (stride_of maxmod) (size_of n) l u y z w l' u' y' z' w')
      answer
