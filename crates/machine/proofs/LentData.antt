-- The test of lent data refuses exactly where a value is not finite, and it names the first such place.
use mathlib.Core.Path.{◌≡◌, refl, sym, ap, ◌∙◌}
use mathlib.Core.Bool.{Bool, true, false}
use mathlib.Core.List.{List, [], ◌∷◌, ◌++◌}
use mathlib.Core.Option.{Option, none, some}
use Prim.Native.Nat.{ℕ, zero, suc, ◌+◌, ◌<◌}
use native.Mathlib.Omega.{arith}
use lib.ListN.{length, get_or}
use Rattle.numbers.specs.NumberForm.{NumberForm}
use Rattle.machine.specs.Calls.{push, Answer, refused_at, ◌or_else◌}
use Rattle.machine.specs.LentData.{first_non_finite, data_test}
use Rattle.machine.proofs.Refusals.{none_is_some}

module _ (N : NumberForm) where
  open N use {Value, is_finite, absent}

  -- whether the value at a place is finite
  abbrev pub finite_at : List Value → ℕ → Bool
  finite_at xs i = is_finite (get_or xs i absent)

  -- 23 with that place
  abbrev named : ℕ → Option Answer
  named k = some (refused_at 23 k)

  finite_first : (k : ℕ) (x : Value) (xs : List Value) → is_finite x ≡ true → first_non_finite N k (x ∷ xs) ≡ first_non_finite N (suc k) xs
  unfolding first_non_finite
  finite_first k x xs e = rw e refl

  pub non_finite_first : (k : ℕ) (x : Value) (xs : List Value) → is_finite x ≡ false → first_non_finite N k (x ∷ xs) ≡ named k
  unfolding first_non_finite
  non_finite_first k x xs e = rw e refl

  -- ---- from the values to what is named

  pub none_if_finite : (k : ℕ) (xs : List Value) → ((i : ℕ) → i < length xs → finite_at xs i ≡ true) → first_non_finite N k xs ≡ none
  unfolding first_non_finite
  none_if_finite k [] h = refl
  none_if_finite k (x ∷ xs) h = finite_first k x xs (h zero (omega arith)) ∙ none_if_finite (suc k) xs (λ i l. h (suc i) (omega arith))

  pub first_named : (k : ℕ) (xs : List Value) (i : ℕ) → i < length xs → ((j : ℕ) → j < i → finite_at xs j ≡ true) → finite_at xs i ≡ false
      → first_non_finite N k xs ≡ named (k + i)
  first_named k [] i l h e = absurd (omega arith)
  first_named k (x ∷ xs) zero l h e = non_finite_first k x xs e ∙ ap named (omega arith)
  first_named k (x ∷ xs) (suc i) l h e =
      finite_first k x xs (h zero (omega arith)) ∙ first_named (suc k) xs i (omega arith) (λ j m. h (suc j) (omega arith)) e ∙ ap named (omega arith)

  -- ---- from what is named to the values

  pub all_finite : (k : ℕ) (xs : List Value) → first_non_finite N k xs ≡ none → (i : ℕ) → i < length xs → finite_at xs i ≡ true
  all_finite k [] e i l = absurd (omega arith)
  all_finite k (x ∷ xs) e i l = go (is_finite x) refl (all_finite (suc k) xs) i l
    where
      go : (b : Bool) → is_finite x ≡ b → (first_non_finite N (suc k) xs ≡ none → (j : ℕ) → j < length xs → finite_at xs j ≡ true)
          → (j : ℕ) → j < suc (length xs) → finite_at (x ∷ xs) j ≡ true
      go true p rest zero m = p
      go true p rest (suc j) m = rest (sym (finite_first k x xs p) ∙ e) j (omega arith)
      go false p rest j m = absurd (none_is_some e (non_finite_first k x xs p))

  -- the value at place i is the first that is not finite, and a names that place, counted from k
  pub record First (k : ℕ) (xs : List Value) (a : Answer) : Type 0 where
    pub i : ℕ
    pub below : i < length xs
    pub is_named : a ≡ refused_at 23 (k + i)
    pub non_finite : finite_at xs i ≡ false
    pub finite_before : (j : ℕ) → j < i → finite_at xs j ≡ true

  -- a finite value before a list whose first such place is known
  after_finite : (k : ℕ) (x : Value) (xs : List Value) (a : Answer) → is_finite x ≡ true → First (suc k) xs a → First k (x ∷ xs) a
  after_finite k x xs a p f = record {
    i = suc f.i;
    below = omega (arith, f.below);
    is_named = f.is_named ∙ ap (refused_at 23) (omega arith);
    non_finite = f.non_finite;
    finite_before = before f.i f.finite_before;
  }
    where
      before : (i : ℕ) → ((j : ℕ) → j < i → finite_at xs j ≡ true) → (j : ℕ) → j < suc i → finite_at (x ∷ xs) j ≡ true
      before i h zero l = p
      before i h (suc j) l = h j (omega arith)

  pub first_found : (k : ℕ) (xs : List Value) (a : Answer) → first_non_finite N k xs ≡ some a → First k xs a
  unfolding first_non_finite
  first_found k [] a e = absurd (none_is_some refl e)
  first_found k (x ∷ xs) a e = go (is_finite x) refl (first_found (suc k) xs a)
    where
      go : (b : Bool) → is_finite x ≡ b → (first_non_finite N (suc k) xs ≡ some a → First (suc k) xs a) → First k (x ∷ xs) a
      go true p rest = after_finite k x xs a p (rest (sym (finite_first k x xs p) ∙ e))
      go false p rest =
          let e' = sym (non_finite_first k x xs p) ∙ e in
          let here : refused_at 23 k ≡ a = cc in
          record { i = 0; below = omega arith; is_named = sym here ∙ ap (refused_at 23) (omega arith); non_finite = p; finite_before = λ j l. absurd (omega arith) }

  -- ---- two lists, one behind the other

  -- the places of the second are counted from m
  abbrev Parts : List Value → ℕ → List Value → ℕ → Type 0
  Parts ys k xs m = first_non_finite N k (xs ++ ys) ≡ (first_non_finite N k xs or_else first_non_finite N m ys)

  pub in_two_parts : (k : ℕ) (xs ys : List Value) → Parts ys k xs (k + length xs)
  unfolding first_non_finite
  in_two_parts k [] ys = ap (λ (m : ℕ). first_non_finite N m ys) (omega arith)
  in_two_parts k (x ∷ xs) ys = go (is_finite x) refl (in_two_parts (suc k) xs ys)
    where
      go : (b : Bool) → is_finite x ≡ b → Parts ys (suc k) xs (suc k + length xs) → Parts ys k (x ∷ xs) (k + suc (length xs))
      go true p rest =
          let place : suc k + length xs ≡ k + suc (length xs) = omega arith in
          finite_first k x (xs ++ ys) p ∙ rest ∙ (λ t. sym (finite_first k x xs p) t or_else first_non_finite N (place t) ys)
      go false p rest = non_finite_first k x (xs ++ ys) p ∙ (λ t. sym (non_finite_first k x xs p) t or_else first_non_finite N (k + suc (length xs)) ys)

  -- ---- a push

  -- the row, then the column, then the diagonal
  pub push_in_parts : (row column : List Value) (d : Value)
      → data_test N (push row column d) ≡ (first_non_finite N 0 row or_else first_non_finite N (length row) column or_else first_non_finite N (length row + length column) (d ∷ []))
  push_in_parts row column d =
      let place : 0 + length row ≡ length row = omega arith in
      in_two_parts 0 row (column ++ (d ∷ []))
      ∙ (λ t. first_non_finite N 0 row or_else (ap (λ (k : ℕ). first_non_finite N k (column ++ (d ∷ []))) place ∙ in_two_parts (length row) column (d ∷ [])) t)
