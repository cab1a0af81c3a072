-- Entries of products: sums of rows, four of them at once, and sums that take in one row after another.
use mathlib.Core.Path.{◌≡◌, refl, sym, ap, ◌∙◌}
use mathlib.Core.List.{List, [], ◌∷◌}
use Prim.Native.Nat.{ℕ, zero, suc, ◌+◌, ◌-◌, ◌<◌}
use native.Mathlib.Decide.{dec_lt}
use native.Mathlib.Omega.{arith}
use lib.ListN.{length}
use Rattle.numbers.specs.NumberForm.{NumberForm}
use Rattle.machine.specs.Tables.{Vector, Table, tabulate}
use Rattle.machine.specs.Products.{entry, sum, product, product_transposed}
use Rattle.machine.proofs.Choice.{tabulate_at, tabulate_length}
use Rattle.machine.proofs.Products.{sum_same}
use Rattle.storage.proofs.Kept.{kept_then, kept_more}
use Rattle.ranges.specs.Written.{from, Written}
use Rattle.ranges.specs.Sums.{dot_product, multiple_added}
use Rattle.ranges.proofs.Writing.{sum_more}
use Rattle.ranges.proofs.Vectors.{written_as, written_over}

module _ (N : NumberForm) where
  open N use {Value, absent, add, mul}

  -- a row's sum is an entry of the product
  pub row_product : (n i : ℕ) (L : Table Value) (v : List Value) {row : List Value} {s : Value} → row ≡ tabulate n (L i) → s ≡ dot_product N row v → s ≡ product N n L (entry N v) i
  unfolding product
  row_product n i L v e f =
      f ∙ (λ t. dot_product N (e t) v) ∙ rw tabulate_length (sum_same N n _ _ (λ k h t. mul (tabulate_at n (L i) absent k h t) (entry N v k)))

  -- the sums after j rows
  abbrev pub row_sums : ℕ → Table Value → Vector Value → Vector Value
  row_sums j L v i = sum N j (λ q. mul (L q i) (v q))

  pub row_sums_more : (n j : ℕ) (L : Table Value) (v : Vector Value) {row a b b' : List Value} → row ≡ tabulate n (L j) → Written N (λ i. i) n (row_sums j L v) a b
      → Written N (λ i. i) (length row) (multiple_added N b row (v j)) b b' → Written N (λ i. i) n (row_sums (j + 1) L v) a b'
  row_sums_more n j L v e h g =
      written_over N h
      (written_as N _ (λ k l. (λ t. add (h.value k l t) (mul (tabulate_at n (L j) absent k l t) (v j))) ∙ sum_more N _ refl) (rw (e, tabulate_length n (L j)) at g))

  pub row_sums_all : (n : ℕ) (L : Table Value) (v : Vector Value) {a b : List Value} → Written N (λ i. i) n (row_sums n L v) a b → Written N (λ i. i) n (product_transposed N n L v) a b
  unfolding product_transposed
  row_sums_all n L v h = h

  -- ---- four entries at once

  pub four_entries : (f : Vector Value) {a b c d : Value} → a ≡ f 0 → b ≡ f 1 → c ≡ f 2 → d ≡ f 3 → (j : ℕ) → j < 4 → entry N (a ∷ b ∷ c ∷ d ∷ []) j ≡ f j
  four_entries f is_a is_b is_c is_d zero h = is_a
  four_entries f is_a is_b is_c is_d (suc zero) h = is_b
  four_entries f is_a is_b is_c is_d (suc (suc zero)) h = is_c
  four_entries f is_a is_b is_c is_d (suc (suc (suc zero))) h = is_d
  four_entries f is_a is_b is_c is_d (suc (suc (suc (suc j)))) h = absurd (omega arith)

  -- behind the first i
  pub written_four : (i : ℕ) {f : Vector Value} {old l : List Value} → Written N (λ k. k) i f old l → {l' : List Value} → Written N (from i) 4 (λ k. f (i + k)) l l'
      → Written N (λ k. k) (i + 4) f old l'
  written_four i {f} {old} {l} done {l'} four = record {
    value = λ k h. elim (dec_lt k i) [
      | yes b ↦ four.kept.same k (λ a. omega arith) ∙ done.value k b
      | no b ↦ let e : i + (k - i) ≡ k = omega arith in ap (entry N l') (sym e) ∙ four.value (k - i) (omega arith) ∙ ap f e
    ];
    kept = kept_then N (kept_more N (λ q a. (a.0, omega arith, a.2)) done.kept) (kept_more N (λ q a. (i + a.0, omega arith, a.2)) four.kept);
  }
