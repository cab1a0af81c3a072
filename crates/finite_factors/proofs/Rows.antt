-- Tests of all places: one after another, in two parts, and row by row.
use mathlib.Core.Path.{◌≡◌, refl, sym, ap, ◌∙◌}
use mathlib.Core.Bool.{Bool, ◌&&◌, and-true, and_assoc}
use mathlib.Core.List.{List, [], ◌∷◌}
use Prim.Native.Nat.{ℕ, zero, suc, ◌+◌, ◌≤◌}
use native.Mathlib.Nat.{zero-add, add-zero, add-suc}
use native.Mathlib.Omega.{arith}
use lib.ListN.{length, drop, length-drop}
use Rattle.std.proofs.Common.{get_or-drop}
use Rattle.std.specs.List.{list_all, range_with_len}
use Rattle.numbers.specs.NumberForm.{NumberForm}
use Rattle.machine.specs.Tables.{Table, tabulate}
use Rattle.machine.specs.Products.{entry}
use Rattle.machine.specs.Readiness.{all_below}
use Rattle.machine.proofs.Choice.{tabulate_at, tabulate_length}
use Rattle.machine.proofs.Readiness.{same_below}

-- the places below n, and m more
pub all_below_both : (n m : ℕ) (test : ℕ → Bool) → all_below (n + m) test ≡ (all_below n test && all_below m (λ j. test (n + j)))
unfolding all_below
all_below_both n zero test = ap (λ (k : ℕ). all_below k test) (add-zero n) ∙ sym (and-true (all_below n test))
all_below_both n (suc m) test =
    ap (λ (k : ℕ). all_below k test) (add-suc n m) ∙ (λ t. all_below_both n m test t && test (n + m)) ∙ and_assoc (all_below n test) _ _

-- the first place before the others
first_below : (k : ℕ) (test : ℕ → Bool) → all_below (suc k) test ≡ (test 0 && all_below k (λ i. test (suc i)))
unfolding all_below
first_below k test =
    let long : suc k ≡ 1 + k = omega arith in
    ap (λ (m : ℕ). all_below m test) long ∙ all_below_both 1 k test ∙ λ t. test 0 && same_below k _ _ (λ i h. let e : 1 + i ≡ suc i = omega arith in ap test e) t

-- the numbers from `start` on
all_from : (count start : ℕ) (test : ℕ → Bool) → list_all test (range_with_len start count) ≡ all_below count (λ i. test (start + i))
unfolding all_below
all_from zero start test = refl
all_from (suc n) start test =
    let here : start ≡ start + 0 = omega arith in
    let others = all_from n (start + 1) test ∙ same_below n _ _ (λ i h. let e : start + 1 + i ≡ start + suc i = omega arith in ap test e) in
    (λ t. test (here t) && others t) ∙ sym (first_below n (λ i. test (start + i)))

module _ (N : NumberForm) where
  open N use {Value, is_finite}

  -- whether a list's entries are finite
  abbrev pub finite_list : List Value → Bool
  finite_list xs = all_below (length xs) (λ k. is_finite (entry N xs k))

  -- the entries below n, and the others
  pub finite_parts : (n : ℕ) (xs : List Value) → n ≤ length xs → finite_list xs ≡ (all_below n (λ k. is_finite (entry N xs k)) && finite_list (drop n xs))
  finite_parts n xs h =
      let test : ℕ → Bool = λ k. is_finite (entry N xs k) in
      let others = length (drop n xs) in
      let long : length xs ≡ n + others = omega (arith, length-drop n xs) in
      ap (λ (k : ℕ). all_below k test) long
      ∙ all_below_both n others test
      ∙ λ t. all_below n test && same_below others _ _ (λ j l. ap is_finite (sym (get_or-drop n xs j N.absent))) t

  -- the test of one entry after another
  pub each_finite : (xs : List Value) → list_all is_finite xs ≡ finite_list xs
  unfolding all_below
  each_finite [] = refl
  each_finite (x ∷ xs) = (λ t. is_finite x && each_finite xs t) ∙ sym (first_below (length xs) (λ k. is_finite (entry N (x ∷ xs) k)))

  -- n rows, of which row i has width i entries
  pub finite_rows : (n : ℕ) (width : ℕ → ℕ) (T : Table Value) → list_all (λ i. finite_list (tabulate (width i) (T i))) (range_with_len 0 n)
      ≡ all_below n (λ i. all_below (width i) (λ k. is_finite (T i k)))
  finite_rows n width T =
      all_from n 0 _ ∙ same_below n _ _ (λ i h.
      rw (zero-add i, tabulate_length (width i) (T i)) (same_below (width i) _ _ (λ k l. ap is_finite (tabulate_at (width i) (T i) N.absent k l))))
