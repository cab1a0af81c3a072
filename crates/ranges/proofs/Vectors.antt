-- Vectors at the front of a slice: what is written there, under another name, in parts, whole, in one entry, or over what was written before.
use mathlib.Core.Path.{◌≡◌, refl, sym, ap, ◌∙◌}
use mathlib.Core.List.{List}
use Prim.Native.Nat.{ℕ, ◌≤◌, ◌<◌}
use native.Mathlib.Omega.{arith}
use lib.Dec.{eqb, eqb→eq}
use lib.ListN.{length, set}
use lib.Seq.{get_or-set_same, get_or-set_other}
use Rattle.std.proofs.lemmas.List.{ext_get_or}
use Rattle.numbers.specs.NumberForm.{NumberForm}
use Rattle.machine.specs.Tables.{Vector, put}
use Rattle.machine.specs.Products.{entry}
use Rattle.machine.proofs.Choice.{neqb→ne, pick}
use Rattle.storage.proofs.Kept.{kept_all, kept_set, kept_then, kept_more}
use Rattle.ranges.specs.Written.{Written}

module _ (N : NumberForm) where
  open N use {Value, absent}

  -- the same values by another name
  pub written_as : {place : ℕ → ℕ} {n : ℕ} (f : Vector Value) {g : Vector Value} {a b : List Value} → ((k : ℕ) → k < n → f k ≡ g k) → Written N place n f a b → Written N place n g a b
  written_as f e h = record { value = λ k l. h.value k l ∙ e k l; kept = h.kept }

  -- the same places by another name
  pub written_at : {p q : ℕ → ℕ} {n : ℕ} {f : Vector Value} {a b : List Value} → ((k : ℕ) → k < n → p k ≡ q k) → Written N p n f a b → Written N q n f a b
  written_at {p} {q} {n} {f} {a} {b} e h = record {
    value = λ k l. ap (entry N b) (sym (e k l)) ∙ h.value k l;
    kept = kept_more N (λ r w. (w.0, w.1, w.2 ∙ e w.0 w.1)) h.kept;
  }

  -- written over
  pub written_over : {place : ℕ → ℕ} {n : ℕ} {f g : Vector Value} {a b c : List Value} → Written N place n f a b → Written N place n g b c → Written N place n g a c
  written_over h g = record { value = g.value; kept = kept_then N h.kept g.kept }

  -- further entries of one vector
  pub written_further : {m n : ℕ} {f : Vector Value} {a b c : List Value} → m ≤ n → Written N (λ i. i) m f a b → Written N (λ i. i) n f b c → Written N (λ i. i) n f a c
  written_further l h g = record { value = g.value; kept = kept_then N (kept_more N (λ q w. (w.0, omega arith, w.2)) h.kept) g.kept }

  -- a slice that is written whole, with the entries of another
  pub written_whole : {n : ℕ} {a b xs : List Value} → n ≡ length a → length xs ≡ length a → Written N (λ i. i) n (entry N xs) a b → b ≡ xs
  written_whole {n} {a} {b} {xs} e f h =
      let long : length b ≡ length xs = h.kept.long ∙ sym f in
      ext_get_or absent b xs long (λ i l. h.value i (omega arith))

  -- nothing is written where each entry is what it was
  pub written_same : (n : ℕ) (l : List Value) → Written N (λ i. i) n (entry N l) l l
  written_same n l = record { value = λ k h. refl; kept = kept_all N }

  -- one entry of a vector
  pub written_put : (n row : ℕ) {f : Vector Value} {a b : List Value} {x x' : Value} → row < n → n ≤ length b → x ≡ x' → Written N (λ i. i) n f a b
      → Written N (λ i. i) n (put row x' f) a (set b row x)
  written_put n row {f} {a} {b} {x} hr hb e h = record {
    value = λ k l. pick (eqb k row)
        (λ s. ap (entry N (set b row x)) (eqb→eq k row s) ∙ get_or-set_same b row x absent (omega arith) ∙ e)
        (λ s. get_or-set_other b row k x absent (neqb→ne k row s) ∙ h.value k l);
    kept = kept_then N h.kept (kept_set N b row x (row, hr, refl));
  }
