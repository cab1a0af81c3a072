-- A row of L becomes a unit row.
use mathlib.Core.Path.{◌≡◌, sym, ap, ◌∙◌}
use mathlib.Core.List.{List}
use Prim.Native.Nat.{ℕ, ◌*◌, ◌≤◌, ◌<◌}
use native.Mathlib.Omega.{arith}
use lib.Dec.{eqb, eqb→eq}
use lib.ListN.{length, set}
use lib.Seq.{get_or-set_same, get_or-set_other}
use Rattle.numbers.specs.NumberForm.{NumberForm}
use Rattle.machine.specs.Products.{entry}
use Rattle.machine.specs.Updates.{with_unit_row}
use Rattle.machine.proofs.Choice.{neqb→ne, pick}
use Rattle.storage.specs.Places.{l_index}
use Rattle.storage.specs.Views.{view_l}
use Rattle.storage.proofs.Kept.{kept_set, kept_then, kept_more}
use Rattle.storage.proofs.Places.{l_index_injective}
use Rattle.ranges.specs.Written.{from, Written}
use Rattle.factors.specs.LUpdated.{LUpdated}

module _ (N : NumberForm) where
  open N use {Value, zero as 𝟎, one as 𝟏, absent}

  pub unit_row_set : (c n row column p : ℕ) (l : List Value) {l₁ : List Value} → n ≤ c → row < n → column < n → p ≡ l_index c row column → p < length l₁
      → Written N (from (row * c)) n (λ k. 𝟎) l l₁ → LUpdated N c n (with_unit_row N row column) l (set l₁ p 𝟏)
  unit_row_set c n row column p l {l₁} hc hr hk is-p fits h = record {
    value = λ i j hi hj. pick (eqb i row)
        (λ s. pick (eqb j column)
        (λ t. ap (λ (r : ℕ). view_l N c (set l₁ p 𝟏) r j) (eqb→eq i row s) ∙ ap (view_l N c (set l₁ p 𝟏) row) (eqb→eq j column t) ∙ ap (entry N (set l₁ p 𝟏)) (sym is-p) ∙ get_or-set_same l₁ p 𝟏 absent fits)
        (λ t. get_or-set_other l₁ p _ 𝟏 absent (λ e. neqb→ne j column t (l_index_injective c i j row column (omega arith) (omega arith) (e ∙ is-p)).1)
        ∙ ap (λ (r : ℕ). view_l N c l₁ r j) (eqb→eq i row s) ∙ h.value j hj))
        (λ s. get_or-set_other l₁ p _ 𝟏 absent (λ e. neqb→ne i row s (l_index_injective c i j row column (omega arith) (omega arith) (e ∙ is-p)).0)
        ∙ h.kept.same _ (λ w. neqb→ne i row s (l_index_injective c i j row w.0 (omega arith) (omega arith) w.2).0));
    kept = kept_then N (kept_more N (λ q w. (row, w.0, hr, w.1, w.2)) h.kept) (kept_set N l₁ p 𝟏 (row, column, hr, hk, is-p));
  }
