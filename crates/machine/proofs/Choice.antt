-- Laws of tests and choices: a branch is compared only where it is taken. And agreement is an equivalence.
use mathlib.Core.Path.{◌≡◌, refl, sym, ◌∙◌, subst}
use mathlib.Core.Bool.{Bool, true, false, not, ◌&&◌, cond}
use mathlib.Core.List.{List, [], ◌∷◌}
use Prim.Native.Nat.{ℕ, zero, suc, ◌≤◌, ◌<◌}
use native.Mathlib.Omega.{arith}
use lib.ListN.{length, get_or}
use lib.Dec.{T as So, leb, ltb, eqb, ltb→lt, leb→le, eqb→eq, T_not}
use borrow.Author.Tests.{leb-false, ltb-false}
use lib.Ieee.Fits.{eq→eqb, and_l, and_r}
use Rattle.machine.specs.Tables.{Vector, State, Work, state_of, tabulate}
use Rattle.machine.specs.Calls.{Result}
use Rattle.machine.specs.Counter.{CountedState}
use Rattle.machine.specs.Agreement.{Agree, Same, AgreeCounted, AgreeWithin}

-- ---- tests

pub is_true : (b : Bool) → So b → b ≡ true
is_true true h = refl
is_true false h = absurd h

pub is_false : (b : Bool) → So (not b) → b ≡ false
is_false true h = absurd h
is_false false h = refl

pub neqb→ne : (a b : ℕ) → So (not (eqb a b)) → a ≡ b → ⊥
neqb→ne a b s e = T_not (eqb a b) s (eq→eqb e)

pub both_equal : (a b c d : ℕ) → So (eqb a b && eqb c d) → (a ≡ b) × (c ≡ d)
both_equal a b c d s = (eqb→eq a b (and_l (eqb a b) (eqb c d) s), eqb→eq c d (and_r (eqb a b) (eqb c d) s))

pub in_range : (a b j : ℕ) → So (leb a j && ltb j b) → (a ≤ j) × (j < b)
in_range a b j s = (leb→le a j (and_l (leb a j) (ltb j b) s), ltb→lt j b (and_r (leb a j) (ltb j b) s))

pub in_range_after : (a b j : ℕ) → So (ltb a j && ltb j b) → (a < j) × (j < b)
in_range_after a b j s = (ltb→lt a j (and_l (ltb a j) (ltb j b) s), ltb→lt j b (and_r (ltb a j) (ltb j b) s))

pub out_of_range : (a b j : ℕ) → So (not (leb a j && ltb j b)) → a ≤ j → b ≤ j
out_of_range a b j s h = go (leb a j) (ltb j b) refl refl s
  where
    go : (p q : Bool) → leb a j ≡ p → ltb j b ≡ q → So (not (p && q)) → b ≤ j
    go true true e f t = absurd t
    go true false e f t = ltb-false j b f
    go false q e f t = absurd (omega (arith, leb-false a j e))

pub out_of_range_after : (a b j : ℕ) → So (not (ltb a j && ltb j b)) → a < j → b ≤ j
out_of_range_after a b j s h = out_of_range (suc a) b j s h

module _ {A : Type 0} where
  pub choose : (b : Bool) {x x' y y' : A} → (So b → x ≡ x') → (So (not b) → y ≡ y') → cond b x y ≡ cond b x' y'
  choose true f g = f tt
  choose false f g = g tt

  -- a value is what a choice makes where it is so on either side
  pub pick : (b : Bool) {a x y : A} → (So b → a ≡ x) → (So (not b) → a ≡ y) → a ≡ cond b x y
  pick true f g = f tt
  pick false f g = g tt

  pub tabulate_same : (k : ℕ) (f g : Vector A) → ((i : ℕ) → i < k → f i ≡ g i) → tabulate k f ≡ tabulate k g
  tabulate_same zero f g h = refl
  tabulate_same (suc k) f g h =
      λ i. h zero (omega arith) i ∷ tabulate_same k (λ a. f (suc a)) (λ a. g (suc a)) (λ a l. h (suc a) (omega arith)) i

  pub tabulate_length : (k : ℕ) (f : Vector A) → length (tabulate k f) ≡ k
  tabulate_length zero f = refl
  tabulate_length (suc k) f = λ i. suc (tabulate_length k (λ a. f (suc a)) i)

  pub tabulate_at : (k : ℕ) (f : Vector A) (d : A) (i : ℕ) → i < k → get_or (tabulate k f) i d ≡ f i
  tabulate_at zero f d i h = absurd (omega arith)
  tabulate_at (suc k) f d zero h = refl
  tabulate_at (suc k) f d (suc i) h = tabulate_at k (λ a. f (suc a)) d i (omega arith)

  -- a list is told by its entries
  pub listed : (xs : List A) (f : Vector A) (d : A) → ((i : ℕ) → i < length xs → get_or xs i d ≡ f i) → xs ≡ tabulate (length xs) f
  listed [] f d h = refl
  listed (x ∷ xs) f d h = λ i. h zero (omega arith) i ∷ listed xs (λ a. f (suc a)) d (λ a l. h (suc a) (omega arith)) i

  -- ---- agreement of works

  pub within_choose : {m lo hi k : ℕ} (b : Bool) {S S' R R' : Work A} → (So b → AgreeWithin m lo hi k S S') → (So (not b) → AgreeWithin m lo hi k R R')
      → AgreeWithin m lo hi k (cond b S R) (cond b S' R')
  within_choose true f g = f tt
  within_choose false f g = g tt

  -- the same with two tests that are equal
  pub within_cond : {m lo hi k : ℕ} (b c : Bool) {S S' R R' : Work A} → b ≡ c → AgreeWithin m lo hi k S S' → AgreeWithin m lo hi k R R'
      → AgreeWithin m lo hi k (cond b S R) (cond c S' R')
  within_cond {m} {lo} {hi} {k} b c {S} {S'} {R} {R'} e s r =
      subst (λ (d : Bool). AgreeWithin m lo hi k (cond b S R) (cond d S' R')) e (within_choose b (λ _. s) (λ _. r))

  pub within_from : {m lo lo' hi k : ℕ} {S R : Work A} → lo ≤ lo' → AgreeWithin m lo hi k S R → AgreeWithin m lo' hi k S R
  within_from l h = record { L = h.L; U = h.U; y = λ j a b. h.y j (omega arith) b; v = h.v }

  -- less is compared
  pub within_less : {m lo hi k : ℕ} (hi' k' : ℕ) {S R : Work A} → hi' ≤ hi → k' ≤ k → AgreeWithin m lo hi k S R → AgreeWithin m lo hi' k' S R
  within_less hi' k' l l' h = record { L = h.L; U = h.U; y = λ j a b. h.y j a (omega arith); v = λ j a. h.v j (omega arith) }

  pub within_refl : {m lo hi k : ℕ} {S : Work A} → AgreeWithin m lo hi k S S
  within_refl = record { L = λ i j a b. refl; U = λ i j a b. refl; y = λ j a b. refl; v = λ j a. refl }

  pub within_trans : {m lo hi k : ℕ} {S R Q : Work A} → AgreeWithin m lo hi k S R → AgreeWithin m lo hi k R Q → AgreeWithin m lo hi k S Q
  within_trans h g = record {
    L = λ i j a b. h.L i j a b ∙ g.L i j a b;
    U = λ i j a b. h.U i j a b ∙ g.U i j a b;
    y = λ j a b. h.y j a b ∙ g.y j a b;
    v = λ j a. h.v j a ∙ g.v j a;
  }

  pub within_state : (p : ℕ) {m lo hi k : ℕ} {S R : Work A} → p ≤ m → AgreeWithin m lo hi k S R → Agree (state_of p S) (state_of p R)
  within_state p l h = record { n = refl; L = λ i j hi hj. h.L i j (omega arith) (omega arith); U = λ i j hij hj. h.U i j hij (omega arith) }

  -- ---- agreement of states and results

  pub agree_refl : (S : State A) → Agree S S
  agree_refl S = record { n = refl; L = λ i j _ _. refl; U = λ i j _ _. refl }

  pub agree_sym : {S R : State A} → Agree S R → Agree R S
  agree_sym h = record {
    n = sym h.n;
    L = λ i j a b. sym (h.L i j (omega (arith, h.n)) (omega (arith, h.n)));
    U = λ i j a b. sym (h.U i j a (omega (arith, h.n)));
  }

  pub agree_trans : {S R Q : State A} → Agree S R → Agree R Q → Agree S Q
  agree_trans h g = record {
    n = h.n ∙ g.n;
    L = λ i j a b. h.L i j a b ∙ g.L i j (omega (arith, h.n)) (omega (arith, h.n));
    U = λ i j a b. h.U i j a b ∙ g.U i j a (omega (arith, h.n));
  }

  pub same_sym : {a b : Result A} → Same a b → Same b a
  same_sym h = record { answer = sym h.answer; solved = sym h.solved; after = agree_sym h.after }

  pub same_trans : {a b c : Result A} → Same a b → Same b c → Same a c
  same_trans h g = record { answer = h.answer ∙ g.answer; solved = h.solved ∙ g.solved; after = agree_trans h.after g.after }

  -- ---- the same with counters

  pub agree_counted_sym : {S R : CountedState A} → AgreeCounted S R → AgreeCounted R S
  agree_counted_sym h = record { state = agree_sym h.state; counter = sym h.counter }

  pub agree_counted_trans : {S R Q : CountedState A} → AgreeCounted S R → AgreeCounted R Q → AgreeCounted S Q
  agree_counted_trans h g = record { state = agree_trans h.state g.state; counter = h.counter ∙ g.counter }
