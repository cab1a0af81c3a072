-- A buffer with the active entries of a table written to their places, all else as it was: any table fits any buffer that is long enough.
use mathlib.Core.Path.{◌≡◌, refl, sym, ◌∙◌, subst}
use mathlib.Core.Bool.{Bool, true, false, ◌&&◌, cond}
use mathlib.Core.List.{List}
use mathlib.Core.Logic.{◌≢◌}
use Prim.Native.Nat.{ℕ, zero, suc, ◌≤◌, ◌<◌}
use native.Mathlib.Omega.{arith}
use native.Mathlib.Decide.{ℕ_discrete, dec_lt}
use lib.Dec.{T as So, eqb, eqb→eq, eqb_refl, not_T}
use lib.ListN.{length, get_or, get_or-eq_default}
use lib.Ieee.Fits.{and_i, and_l, and_r}
use lib.Ieee.Bits.{cond_no}
use Rattle.numbers.specs.NumberForm.{NumberForm}
use Rattle.machine.specs.Tables.{Vector, Table, tabulate}
use Rattle.machine.proofs.Choice.{tabulate_length, tabulate_at}
use Rattle.storage.specs.Views.{Kept}

module _ {A : Type 0} where
  cond_yes : (b : Bool) (x y : A) → So b → cond b x y ≡ x
  cond_yes true x y h = refl
  cond_yes false x y h = absurd h

-- the entries of a table that are active among those below n, at places of which no two are equal
module _ {A : Type 0} (place : ℕ → ℕ → ℕ) (active : ℕ → ℕ → Bool) (table : Table A) (n : ℕ) where
  -- the columns below k of row i
  written_row : ℕ → ℕ → Vector A → Vector A
  written_row i zero f = f
  written_row i (suc k) f = λ q. cond (active i k && eqb q (place i k)) (table i k) (written_row i k f q)

  -- the rows below i
  written_rows : ℕ → Vector A → Vector A
  unfolding written_row
  written_rows zero f = f
  written_rows (suc i) f = written_row i n (written_rows i f)

  column_misses : (i k : ℕ) (f : Vector A) (q : ℕ) → (So (active i k) → q ≢ place i k) → written_row i (suc k) f q ≡ written_row i k f q
  unfolding written_row
  column_misses i k f q h =
      let there = eqb q (place i k) in
      cond_no (active i k && there) (table i k) (written_row i k f q)
      (not_T (active i k && there) (λ t. h (and_l (active i k) there t) (eqb→eq q (place i k) (and_r (active i k) there t))))

  column_hits : (i k : ℕ) (f : Vector A) → So (active i k) → written_row i (suc k) f (place i k) ≡ table i k
  unfolding written_row
  column_hits i k f a =
      let there = eqb (place i k) (place i k) in
      cond_yes (active i k && there) (table i k) (written_row i k f (place i k)) (and_i (active i k) there a (eqb_refl (place i k)))

  row_misses : (i k : ℕ) (f : Vector A) (q : ℕ) → ((j : ℕ) → j < k → So (active i j) → q ≢ place i j) → written_row i k f q ≡ f q
  unfolding written_row
  row_misses i zero f q h = refl
  row_misses i (suc k) f q h = column_misses i k f q (h k (omega arith)) ∙ row_misses i k f q (λ j l. h j (omega arith))

  rows_miss : (i : ℕ) (f : Vector A) (q : ℕ) → ((p j : ℕ) → p < i → j < n → So (active p j) → q ≢ place p j) → written_rows i f q ≡ f q
  unfolding written_rows
  rows_miss zero f q h = refl
  rows_miss (suc i) f q h = row_misses i n (written_rows i f) q (λ j. h i j (omega arith)) ∙ rows_miss i f q (λ p j l. h p j (omega arith))

  module _ (injective : (i j p q : ℕ) → i < n → j < n → p < n → q < n → So (active i j) → So (active p q) → place i j ≡ place p q → (i ≡ p) × (j ≡ q)) where
    row_hits : (i k : ℕ) (f : Vector A) (j : ℕ) → i < n → k ≤ n → j < k → So (active i j) → written_row i k f (place i j) ≡ table i j
    row_hits i zero f j hi hk hj a = absurd (omega arith)
    row_hits i (suc k) f j hi hk hj a = go (ℕ_discrete j k) (λ l. row_hits i k f j hi (omega arith) l a)
      where
        go : Dec (j ≡ k) → (j < k → written_row i k f (place i j) ≡ table i j) → written_row i (suc k) f (place i j) ≡ table i j
        go (yes e) ih =
            subst (λ (x : ℕ). written_row i (suc k) f (place i x) ≡ table i x) (sym e) (column_hits i k f (subst (λ (x : ℕ). So (active i x)) e a))
        go (no e) ih =
            column_misses i k f (place i j) (λ b p. e (injective i j i k hi (omega arith) hi (omega arith) a b p).1) ∙ ih (omega arith)

    rows_hit : (m : ℕ) (f : Vector A) (i j : ℕ) → m ≤ n → i < m → j < n → So (active i j) → written_rows m f (place i j) ≡ table i j
    unfolding written_rows
    rows_hit zero f i j hm hi hj a = absurd (omega arith)
    rows_hit (suc m) f i j hm hi hj a = go (ℕ_discrete i m) (λ l. rows_hit m f i j (omega arith) l hj a)
      where
        go : Dec (i ≡ m) → (i < m → written_rows m f (place i j) ≡ table i j) → written_row m n (written_rows m f) (place i j) ≡ table i j
        go (yes e) ih =
            subst (λ (x : ℕ). written_row x n (written_rows m f) (place i j) ≡ table i j) e (row_hits i n (written_rows m f) j (omega arith) (omega arith) hj a)
        go (no e) ih =
            row_misses m n (written_rows m f) (place i j) (λ k l b p. e (injective i j m k (omega arith) hj (omega arith) l a b p).0) ∙ ih (omega arith)

-- the buffer
module _ (N : NumberForm) (place : ℕ → ℕ → ℕ) (active : ℕ → ℕ → Bool) (table : Table N.Value) (n : ℕ) (old : List N.Value) where
  open N use {Value, absent}

  pub written : List Value
  written = tabulate (length old) (written_rows place active table n n (λ q. get_or old q absent))

  written_length : length written ≡ length old
  unfolding written
  written_length = tabulate_length (length old) _

  -- an active entry whose place the buffer has
  pub written_at : ((i j p q : ℕ) → i < n → j < n → p < n → q < n → So (active i j) → So (active p q) → place i j ≡ place p q → (i ≡ p) × (j ≡ q))
      → (i j : ℕ) → i < n → j < n → So (active i j) → place i j < length old → get_or written (place i j) absent ≡ table i j
  unfolding written
  written_at injective i j hi hj a h =
      tabulate_at (length old) _ absent (place i j) h ∙ rows_hit place active table n injective n _ i j (omega arith) hi hj a

  pub written_kept : (Free : ℕ → Type 0) → ((i j : ℕ) → i < n → j < n → So (active i j) → Free (place i j)) → Kept N Free old written
  unfolding written
  written_kept Free h = record { long = written_length; same = λ q f. go q f (dec_lt q (length old)) }
    where
      go : (q : ℕ) → ¬ Free q → Dec (q < length old) → get_or written q absent ≡ get_or old q absent
      go q f (yes l) =
          tabulate_at (length old) _ absent q l
          ∙ rows_miss place active table n n (λ p. get_or old p absent) q (λ i j hi hj a p. f (subst Free (sym p) (h i j hi hj a)))
      go q f (no l) =
          get_or-eq_default written absent {n = q} (omega (arith, written_length))
          ∙ sym (get_or-eq_default old absent {n = q} (omega arith))
