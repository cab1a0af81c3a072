-- `is_ready` is what `Ready` says by entries, in both directions, and reads nothing but active entries.
use mathlib.Core.Path.{◌≡◌, refl, ap, ◌∙◌, subst}
use mathlib.Core.Bool.{Bool, true, ◌&&◌, and-eq-true_iff}
use mathlib.Core.Logic.{⊎_elim, ◌↔◌}
use Prim.Native.Nat.{ℕ, zero, suc, ◌+◌, ◌-◌, ◌≤◌, ◌<◌}
use native.Mathlib.Nat.{eq-or-lt_of_le, le_of_suc-le-suc}
use native.Mathlib.Omega.{arith}
use Rattle.numbers.specs.NumberForm.{NumberForm}
use Rattle.machine.specs.Tables.{Table, State}
use Rattle.machine.specs.Solves.{diagonals}
use Rattle.machine.specs.Calls.{is_none}
use Rattle.machine.specs.Agreement.{Agree}
use Rattle.machine.specs.Readiness.{all_below, Ready, finite_l, finite_u, is_ready}
use Rattle.machine.proofs.Diagonals.{all_sound, none_if_sound}
use Rattle.machine.proofs.Refusals.{none_if_passed}
use Rattle.machine.proofs.Solves.{diagonals_same}

-- ---- a test of all places below k

pub holds_below : (k : ℕ) (test : ℕ → Bool) → all_below k test ≡ true → (i : ℕ) → i < k → test i ≡ true
unfolding all_below
holds_below zero test e i h = absurd (omega arith)
holds_below (suc k) test e i h =
    let b = (and-eq-true_iff (all_below k test) (test k)).0 e in
    ⊎_elim (λ p. ap test p ∙ b.1) (holds_below k test b.0 i) (eq-or-lt_of_le (le_of_suc-le-suc h))

pub true_below : (k : ℕ) (test : ℕ → Bool) → ((i : ℕ) → i < k → test i ≡ true) → all_below k test ≡ true
unfolding all_below
true_below zero test h = refl
true_below (suc k) test h = λ t. true_below k test (λ i l. h i (omega arith)) t && h k (omega arith) t

pub same_below : (k : ℕ) (test test' : ℕ → Bool) → ((i : ℕ) → i < k → test i ≡ test' i) → all_below k test ≡ all_below k test'
unfolding all_below
same_below zero test test' h = refl
same_below (suc k) test test' h = λ t. same_below k test test' (λ i l. h i (omega arith)) t && h k (omega arith) t

module _ (N : NumberForm) where
  open N use {Value, is_finite}

  -- ---- from the entries to what is computed, and back

  ready_if : (S : State Value) → Ready N S → is_ready N S ≡ true
  unfolding is_ready
  ready_if S r =
      let d = none_if_sound N S.U S.n r.diagonal in
      let l = true_below S.n _ (λ i hi. true_below S.n _ (λ j hj. r.L i j (omega arith) (omega arith))) in
      let u = true_below S.n _ (λ i hi. true_below (S.n - i) _ (λ k hk. r.U i (i + k) (omega arith) (omega arith))) in
      λ t. is_none (d t) && (l t && u t)

  ready_only_if : (S : State Value) → is_ready N S ≡ true → Ready N S
  unfolding is_ready
  ready_only_if S e =
      let d = (and-eq-true_iff (is_none (diagonals N S.U S.n)) _).0 e in
      let f = (and-eq-true_iff (finite_l N S.n S.L) (finite_u N S.n S.U)).0 d.1 in
      record {
        diagonal = all_sound N S.U S.n (none_if_passed _ d.0);
        L = λ i j hi hj. holds_below S.n _ (holds_below S.n _ f.0 i (omega arith)) j (omega arith);
        U = λ i j hij hj.
            let k : i + (j - i) ≡ j = omega arith in
            subst (λ (c : ℕ). is_finite (S.U i c) ≡ true) k (holds_below (S.n - i) _ (holds_below S.n _ f.1 i (omega arith)) (j - i) (omega arith));
      }

  pub ready_exactly : (S : State Value) → (is_ready N S ≡ true) ↔ Ready N S
  ready_exactly S = (ready_only_if S, ready_if S)

  -- ---- nothing but active entries is read

  module _ (n : ℕ) (L U L' U' : Table Value) (hL : (i j : ℕ) → i < n → j < n → L i j ≡ L' i j) (hU : (i j : ℕ) → i ≤ j → j < n → U i j ≡ U' i j) where
    is_ready_same : is_ready N (record { n = n; L = L; U = U }) ≡ is_ready N (record { n = n; L = L'; U = U' })
    unfolding is_ready
    is_ready_same =
        let d = diagonals_same N n U U' hU n (omega arith) in
        let l = same_below n _ _ (λ i hi. same_below n _ _ (λ j hj. ap is_finite (hL i j hi hj))) in
        let u = same_below n _ _ (λ i hi. same_below (n - i) _ _ (λ k hk. ap is_finite (hU i (i + k) (omega arith) (omega arith)))) in
        λ t. is_none (d t) && (l t && u t)

  pub ready_agrees : (S R : State Value) → Agree S R → is_ready N S ≡ is_ready N R
  ready_agrees S R h =
      subst (λ (n : ℕ). is_ready N S ≡ is_ready N (record { n = n; L = R.L; U = R.U })) h.n
      (is_ready_same S.n S.L S.U R.L R.U h.L h.U)
