-- Pairs of one slice: none, one more, and a further block of them.
use mathlib.Core.Path.{◌≡◌, sym, ◌∙◌}
use mathlib.Core.Bool.{Bool}
use mathlib.Core.List.{List}
use mathlib.Core.Logic.{◌≢◌, ◌⊎◌, inl, inr, ⊎_elim}
use Prim.Native.Nat.{ℕ, ◌+◌, ◌-◌, ◌≤◌, ◌<◌}
use native.Mathlib.Decide.{dec_lt}
use native.Mathlib.Omega.{arith}
use lib.ListN.{length, set, length-set}
use lib.Seq.{get_or-set_same, get_or-set_other}
use borrow.Author.Count.{below_more}
use Rattle.numbers.specs.NumberForm.{NumberForm}
use Rattle.numbers.specs.PairStep.{first, second}
use Rattle.machine.specs.Products.{entry}
use Rattle.storage.proofs.Kept.{kept_all}
use Rattle.transforms.specs.RowsTransformed.{RowsTransformed}

-- no place of one range is one of the other
apart_at : (x y n : ℕ) → (x + n ≤ y) ⊎ (y + n ≤ x) → (i j : ℕ) → i < n → j < n → x + i ≢ y + j
apart_at x y n apart i j hi hj e = ⊎_elim (λ h. omega arith) (λ h. omega arith) apart

module _ (N : NumberForm) where
  open N use {Value, absent}

  pub rows_none : {swap : Bool} {m : Value} {x y : ℕ} {l : List Value} → RowsTransformed N swap m x y 0 l l
  rows_none = record {
    firsts = λ j h. absurd (omega arith);
    seconds = λ j h. absurd (omega arith);
    kept = kept_all N;
  }

  -- the pairs behind the first k are as they were
  module _ {swap : Bool} {m : Value} (x y n k : ℕ) {l₀ l : List Value} (apart : (x + n ≤ y) ⊎ (y + n ≤ x)) (done : RowsTransformed N swap m x y k l₀ l) where
    left_for_x : (j : ℕ) → k ≤ j → j < n → entry N l (x + j) ≡ entry N l₀ (x + j)
    left_for_x j h g = done.kept.same (x + j) (λ w. ⊎_elim (λ p. omega arith) (λ p. apart_at x y n apart j p.0 g (omega arith) p.2) w)

    left_for_y : (j : ℕ) → k ≤ j → j < n → entry N l (y + j) ≡ entry N l₀ (y + j)
    left_for_y j h g = done.kept.same (y + j) (λ w. ⊎_elim (λ p. apart_at x y n apart p.0 j (omega arith) g (sym p.2)) (λ p. omega arith) w)

  module _ {swap : Bool} {m : Value} {x y n k : ℕ} {l₀ l : List Value} {a b : Value} (apart : (x + n ≤ y) ⊎ (y + n ≤ x)) (turn : k < n) (fits-x : x + n ≤ length l)
      (fits-y : y + n ≤ length l) (done : RowsTransformed N swap m x y k l₀ l) (is-a : a ≡ first N swap (entry N l (x + k)) (entry N l (y + k)))
      (is_b : b ≡ second N swap m (entry N l (x + k)) (entry N l (y + k))) where
    same_x : entry N l (x + k) ≡ entry N l₀ (x + k)
    same_x = left_for_x x y n k apart done k (omega arith) turn

    same_y : entry N l (y + k) ≡ entry N l₀ (y + k)
    same_y = left_for_y x y n k apart done k (omega arith) turn

    l₁ : List Value
    l₁ = set l (x + k) a

    pub rows_more : RowsTransformed N swap m x y (k + 1) l₀ (set (set l (x + k) a) (y + k) b)
    unfolding l₁
    rows_more = record {
      firsts = below_more (λ j. entry N (set l₁ (y + k) b) (x + j) ≡ first N swap (entry N l₀ (x + j)) (entry N l₀ (y + j))) k
          (λ j h. get_or-set_other l₁ (y + k) (x + j) b absent (apart_at x y n apart j k (omega arith) turn)
          ∙ get_or-set_other l (x + k) (x + j) a absent (λ e. omega arith) ∙ done.firsts j h)
          (get_or-set_other l₁ (y + k) (x + k) b absent (apart_at x y n apart k k turn turn)
          ∙ get_or-set_same l (x + k) a absent (omega arith) ∙ is-a ∙ (λ i. first N swap (same_x i) (same_y i)));
      seconds = below_more (λ j. entry N (set l₁ (y + k) b) (y + j) ≡ second N swap m (entry N l₀ (x + j)) (entry N l₀ (y + j))) k
          (λ j h. get_or-set_other l₁ (y + k) (y + j) b absent (λ e. omega arith)
          ∙ get_or-set_other l (x + k) (y + j) a absent (λ e. apart_at x y n apart k j turn (omega arith) (sym e)) ∙ done.seconds j h)
          (get_or-set_same l₁ (y + k) b absent (rw length-set (omega arith)) ∙ is_b ∙ (λ i. second N swap m (same_x i) (same_y i)));
      kept = record {
        long = length-set l₁ (y + k) b ∙ length-set l (x + k) a ∙ done.kept.long;
        same = λ q free. get_or-set_other l₁ (y + k) q b absent (λ e. free (inr (k, omega arith, e)))
            ∙ get_or-set_other l (x + k) q a absent (λ e. free (inl (k, omega arith, e)))
            ∙ done.kept.same q (λ w. free (⊎_elim (λ p. inl (p.0, omega arith, p.2)) (λ p. inr (p.0, omega arith, p.2)) w));
      };
    }

  -- a further block of pairs, behind the first k
  module _ {swap : Bool} {m : Value} (x y n k : ℕ) {count : ℕ} {l₀ l l' : List Value} (apart : (x + n ≤ y) ⊎ (y + n ≤ x)) (turn : k + count ≤ n)
      (done : RowsTransformed N swap m x y k l₀ l) (block : RowsTransformed N swap m (x + k) (y + k) count l l') where
    -- the block does not reach the first k pairs
    block_leaves_x : (j : ℕ) → j < k → entry N l' (x + j) ≡ entry N l (x + j)
    block_leaves_x j h = block.kept.same (x + j) (λ w. ⊎_elim (λ p. omega arith) (λ p. apart_at x y n apart j (k + p.0) (omega arith) (omega arith) (omega arith)) w)

    block_leaves_y : (j : ℕ) → j < k → entry N l' (y + j) ≡ entry N l (y + j)
    block_leaves_y j h = block.kept.same (y + j) (λ w. ⊎_elim (λ p. apart_at x y n apart (k + p.0) j (omega arith) (omega arith) (omega arith)) (λ p. omega arith) w)

    pub rows_further : RowsTransformed N swap m x y (k + count) l₀ l'
    rows_further = record {
      firsts = λ j h. elim (dec_lt j k) [
        | yes b ↦ block_leaves_x j b ∙ done.firsts j b
        | no b ↦
            let e : x + k + (j - k) ≡ x + j = omega arith in
            let f : y + k + (j - k) ≡ y + j = omega arith in
            (rw (e, f) at (block.firsts (j - k) (omega arith))) ∙ (λ t. first N swap (left_for_x x y n k apart done j (omega arith) (omega arith) t) (left_for_y x y n k apart done j (omega arith) (omega arith) t))
      ];
      seconds = λ j h. elim (dec_lt j k) [
        | yes b ↦ block_leaves_y j b ∙ done.seconds j b
        | no b ↦
            let e : x + k + (j - k) ≡ x + j = omega arith in
            let f : y + k + (j - k) ≡ y + j = omega arith in
            (rw (e, f) at (block.seconds (j - k) (omega arith))) ∙ (λ t. second N swap m (left_for_x x y n k apart done j (omega arith) (omega arith) t) (left_for_y x y n k apart done j (omega arith) (omega arith) t))
      ];
      kept = record {
        long = block.kept.long ∙ done.kept.long;
        same = λ q free.
            block.kept.same q (λ w. free (⊎_elim (λ p. inl (k + p.0, omega arith, omega arith)) (λ p. inr (k + p.0, omega arith, omega arith)) w))
            ∙ done.kept.same q (λ w. free (⊎_elim (λ p. inl (p.0, omega arith, p.2)) (λ p. inr (p.0, omega arith, p.2)) w));
      };
    }
