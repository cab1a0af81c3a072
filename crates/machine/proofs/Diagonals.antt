-- The search along the diagonal refuses exactly when some active diagonal is bad, and it names the first such.
use mathlib.Core.Path.{◌≡◌, refl, ap, ◌∙◌}
use mathlib.Core.Logic.{⊎_elim}
use mathlib.Core.Option.{Option, none, some}
use Prim.Native.Nat.{ℕ, zero, suc, ◌<◌}
use native.Mathlib.Nat.{eq-or-lt_of_le, le_of_suc-le-suc}
use native.Mathlib.Omega.{arith}
use Rattle.numbers.specs.NumberForm.{NumberForm}
use Rattle.machine.specs.Tables.{Table}
use Rattle.machine.specs.Solves.{bad_diagonal, diagonals}
use Rattle.machine.specs.Calls.{Answer, ◌or_else◌}
use Rattle.machine.proofs.Refusals.{or_else_none}

module _ (N : NumberForm) (U : Table N.Value) where
  pub all_sound : (k : ℕ) → diagonals N U k ≡ none → (i : ℕ) → i < k → bad_diagonal N (U i i) i ≡ none
  unfolding diagonals
  all_sound zero e i h = absurd (omega arith)
  all_sound (suc k) e i h =
      let o = or_else_none (diagonals N U k) _ e in
      ⊎_elim (λ p. ap (λ (j : ℕ). bad_diagonal N (U j j) j) p ∙ o.1) (all_sound k o.0 i) (eq-or-lt_of_le (le_of_suc-le-suc h))

  pub none_if_sound : (k : ℕ) → ((i : ℕ) → i < k → bad_diagonal N (U i i) i ≡ none) → diagonals N U k ≡ none
  unfolding diagonals
  none_if_sound zero h = refl
  none_if_sound (suc k) h = λ t. none_if_sound k (λ i l. h i (omega arith)) t or_else h k (omega arith) t

  -- the diagonal i below k gives the answer, and none before it gives one
  pub record First (k : ℕ) (a : Answer) : Type 0 where
    pub i : ℕ
    pub below : i < k
    pub named : bad_diagonal N (U i i) i ≡ some a
    pub sound_before : (j : ℕ) → j < i → bad_diagonal N (U j j) j ≡ none

  pub first_bad : (k : ℕ) (a : Answer) → diagonals N U k ≡ some a → First k a
  unfolding diagonals
  first_bad zero a e = let z : ◌≡◌ {A = ℕ} 0 1 = cc in absurd (omega arith)
  first_bad (suc k) a e = go (diagonals N U k) refl e (first_bad k a)
    where
      go : (o : Option Answer) → diagonals N U k ≡ o → (o or_else bad_diagonal N (U k k) k) ≡ some a → (diagonals N U k ≡ some a → First k a) → First (suc k) a
      go none p q ih = record { i = k; below = omega arith; named = q; sound_before = all_sound k p }
      go (some b) p q ih =
          let f = ih (p ∙ q) in
          record { i = f.i; below = omega (arith, f.below); named = f.named; sound_before = f.sound_before }

  -- a search upward: another sound diagonal, and the first bad one
  pub one_more_sound : (k : ℕ) → diagonals N U k ≡ none → bad_diagonal N (U k k) k ≡ none → diagonals N U (suc k) ≡ none
  unfolding diagonals
  one_more_sound k e f = λ t. e t or_else f t

  pub first_named : (k i : ℕ) (a : Answer) → i < k → diagonals N U i ≡ none → bad_diagonal N (U i i) i ≡ some a → diagonals N U k ≡ some a
  unfolding diagonals
  first_named zero i a h e f = absurd (omega arith)
  first_named (suc k) i a h e f =
      ⊎_elim (λ p. rw (← p) (λ t. e t or_else f t)) (λ l. (λ t. first_named k i a l e f t or_else bad_diagonal N (U k k) k)) (eq-or-lt_of_le (le_of_suc-le-suc h))
