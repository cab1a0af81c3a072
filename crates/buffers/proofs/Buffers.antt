-- Steps on buffers, one after the other, and what the operations on rows of L do to the table that a buffer holds.
use mathlib.Core.Path.{◌≡◌, ap, ◌∙◌}
use mathlib.Core.Bool.{Bool}
use mathlib.Core.List.{List}
use mathlib.Core.Logic.{◌≢◌, ⊎_elim}
use Prim.Native.Nat.{ℕ, ◌*◌, ◌≤◌, ◌<◌}
use native.Mathlib.Omega.{arith}
use lib.Dec.{eqb, eqb→eq}
use Rattle.numbers.specs.NumberForm.{NumberForm}
use Rattle.machine.specs.Tables.{Work}
use Rattle.machine.specs.Forward.{transform_rows}
use Rattle.machine.specs.Agreement.{AgreeWithin}
use Rattle.machine.proofs.Choice.{neqb→ne, pick, within_refl, within_from, within_trans}
use Rattle.storage.specs.Places.{l_index, LPlace}
use Rattle.storage.specs.Views.{view_l, Kept}
use Rattle.storage.proofs.Kept.{kept_more}
use Rattle.storage.proofs.Frames.{frame_all, frame_then}
use Rattle.storage.proofs.Places.{l_index_injective}
use Rattle.ranges.specs.Written.{from, Among}
use Rattle.transforms.specs.RowsTransformed.{RowsTransformed}
use Rattle.buffers.specs.Performed.{work_of, Performed}

module _ (N : NumberForm) where
  open N use {Value}

  -- ---- composition

  pub performed_none : {c n lo hi k : ℕ} {l u y v : List Value} → Performed N c n lo hi k (λ S. S) l u y v l u y v
  performed_none = record { agree = within_refl; frame = frame_all N }

  -- f and then g, where g's result depends only on what f's contract gives
  pub performed_then : {c n lo lo₁ lo' hi k : ℕ} {f g : Work Value → Work Value} {l u y v l₁ u₁ y₁ v₁ l₂ u₂ y₂ v₂ : List Value}
      → Performed N c n lo hi k f l u y v l₁ u₁ y₁ v₁ → Performed N c n lo₁ hi k g l₁ u₁ y₁ v₁ l₂ u₂ y₂ v₂ → lo₁ ≤ lo'
      → ((S R : Work Value) → AgreeWithin n lo hi k S R → AgreeWithin n lo' hi k (g S) (g R)) → Performed N c n lo' hi k (λ S. g (f S)) l u y v l₂ u₂ y₂ v₂
  performed_then p q h same = record { agree = within_trans (within_from h q.agree) (same _ _ p.agree); frame = frame_then N p.frame q.frame }

  -- what f makes of these buffers may be written another way
  pub performed_as : {c n lo hi k : ℕ} (f : Work Value → Work Value) {g : Work Value → Work Value} {l u y v l₁ u₁ y₁ v₁ : List Value}
      → f (work_of N c l u y v) ≡ g (work_of N c l u y v) → Performed N c n lo hi k f l u y v l₁ u₁ y₁ v₁ → Performed N c n lo hi k g l u y v l₁ u₁ y₁ v₁
  performed_as f e p = record { agree = rw (← e) p.agree; frame = p.frame }

  -- less of y may be compared
  pub performed_from : {c n lo lo' hi k : ℕ} {f : Work Value → Work Value} {l u y v l₁ u₁ y₁ v₁ : List Value} → lo ≤ lo'
      → Performed N c n lo hi k f l u y v l₁ u₁ y₁ v₁ → Performed N c n lo' hi k f l u y v l₁ u₁ y₁ v₁
  performed_from h p = record { agree = within_from h p.agree; frame = p.frame }

  -- ---- two rows of L

  module _ (c n a b : ℕ) {swap : Bool} {m : Value} {l l' : List Value} (hc : n ≤ c) (ha : a < n) (hb : b < n) (rows : RowsTransformed N swap m (a * c) (b * c) n l l') where
    -- an entry of another row is at none of their places
    other_row : (i j r : ℕ) → i ≢ r → j < n → ¬ Among (from (r * c)) n (l_index c i j)
    other_row i j r ne hj w = ne (l_index_injective c i j r w.0 (omega arith) (omega arith) w.2).0

    pub l_transformed : (i j : ℕ) → i < n → j < n → view_l N c l' i j ≡ transform_rows N swap m a b (view_l N c l) i j
    unfolding transform_rows
    l_transformed i j hi hj =
        pick (eqb i a) (λ s. ap (λ (r : ℕ). view_l N c l' r j) (eqb→eq i a s) ∙ rows.firsts j hj)
        (λ s. pick (eqb i b) (λ t. ap (λ (r : ℕ). view_l N c l' r j) (eqb→eq i b t) ∙ rows.seconds j hj)
        (λ t. rows.kept.same _ (λ w. ⊎_elim (other_row i j a (neqb→ne i a s) hj) (other_row i j b (neqb→ne i b t) hj) w)))

    pub l_transformed_kept : Kept N (LPlace c n) l l'
    l_transformed_kept = kept_more N (λ q w. ⊎_elim (λ p. (a, p.0, ha, p.1, p.2)) (λ p. (b, p.0, hb, p.1, p.2)) w) rows.kept
