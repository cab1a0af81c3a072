-- Data that was copied to a workspace: the update is that of the data, and the copy is within the workspace's scratch.
use mathlib.Core.Path.{◌≡◌, refl, ◌∙◌}
use mathlib.Core.List.{List}
use Prim.Native.Nat.{ℕ, suc, ◌+◌, ◌-◌, ◌≤◌, ◌<◌}
use native.Mathlib.Omega.{arith}
use lib.ListN.{length, set}
use lib.Seq.{get_or-set_same, get_or-set_other}
use Rattle.numbers.specs.NumberForm.{NumberForm}
use Rattle.machine.specs.Tables.{Vector, State}
use Rattle.machine.specs.Products.{entry}
use Rattle.machine.specs.Calls.{push, replace_row}
use Rattle.machine.specs.Machine.{accepted}
use Rattle.machine.specs.Agreement.{Agree}
use Rattle.machine.specs.Counts.{accepted_count}
use Rattle.machine.proofs.Choice.{within_state}
use Rattle.machine.proofs.Updates.{pushed_same, row_replaced_same}
use Rattle.machine.proofs.Counts.{pushed_count_same, row_replaced_count_same}
use Rattle.storage.specs.Views.{Kept}
use Rattle.storage.specs.Updated.{Updated, CarriedOut}
use Rattle.storage.proofs.Kept.{kept_set, kept_then, kept_more}
use Rattle.storage.proofs.Frames.{frame_then, frame_y, updated_as}
use Rattle.ranges.specs.Written.{Written}

module _ (N : NumberForm) where
  open N use {Value}

  -- the same update, with the workspace y as it was before something was copied to it
  copied_before : {c m : ℕ} {R Q : State Value} {l u y y₁ z w l' u' y' z' w' : List Value} → Agree Q R → Kept N (λ q. q < m) y y₁
      → Updated N c m Q l u y₁ z w l' u' y' z' w' → Updated N c m R l u y z w l' u' y' z' w'
  copied_before same kept d = updated_as N same (record { agree = d.agree; frame = frame_then N (frame_y N kept) d.frame })

  copied_kept : {n : ℕ} {f : Vector Value} {y y₁ : List Value} → Written N (λ k. k) n f y y₁ → (m : ℕ) → n ≤ m → Kept N (λ q. q < m) y y₁
  copied_kept copied m h = kept_more N (λ q a. omega arith) copied.kept

module _ (N : NumberForm) (E T : N.Value) (n c : ℕ) {l u y y₁ z w l' u' y' z' w' : List N.Value} {a : ℕ} where
  open N use {Value, absent}

  -- a row, and the diagonal behind it
  pub push_of_copy : (row column : List Value) (d : Value) → Written N (λ k. k) n (entry N row) y y₁ → n < length y₁
      → CarriedOut N E T c (n + 1 - 1) (n + 1) (push (set y₁ n d) column (entry N (set y₁ n d) (n + 1 - 1))) l u (set y₁ n d) z w l' u' y' z' w' a
      → CarriedOut N E T c n (n + 1) (push row column d) l u y z w l' u' y' z' w' a
  unfolding accepted accepted_count
  push_of_copy row column d copied h update =
      let less : n + 1 - 1 ≡ n = omega arith in
      let same : (j : ℕ) → j < n → entry N (set y₁ n d) j ≡ entry N row j = λ j k. get_or-set_other y₁ n j d absent (omega arith) ∙ copied.value j k in
      let own = rw (get_or-set_same y₁ n d absent h) at (rw less at update) in
      record {
        factors = copied_before N
            (within_state (suc n) (omega arith) (pushed_same N E T n _ _ _ _ (λ i j a b. refl) (λ i j a b. refl) (set y₁ n d) row column column d same (λ j k. refl)))
            (kept_then N (copied_kept N copied (n + 1) (omega arith)) (kept_set N y₁ n d (omega arith)))
            own.factors;
        steps = own.steps ∙ pushed_count_same N E T n _ _ _ _ (λ i j a b. refl) (λ i j a b. refl) (set y₁ n d) row column column d same (λ j k. refl);
      }

  -- the same at the new dimension
  pub push_of_copy_at : (m : ℕ) → m ≡ n + 1 → (row column : List Value) (d : Value) → Written N (λ k. k) n (entry N row) y y₁ → n < length y₁
      → CarriedOut N E T c (m - 1) m (push (set y₁ n d) column (entry N (set y₁ n d) (m - 1))) l u (set y₁ n d) z w l' u' y' z' w' a
      → CarriedOut N E T c n m (push row column d) l u y z w l' u' y' z' w' a
  push_of_copy_at m e row column d copied h update = rw e (push_of_copy row column d copied h (rw e at update))

  -- the values of a row
  pub row_of_copy : (row : ℕ) (values : List Value) → Written N (λ k. k) n (entry N values) y y₁ → row < n
      → CarriedOut N E T c n n (replace_row row y₁) l u y₁ z w l' u' y' z' w' a → CarriedOut N E T c n n (replace_row row values) l u y z w l' u' y' z' w' a
  unfolding accepted accepted_count
  row_of_copy row values copied h update = record {
    factors = copied_before N
        (within_state n (omega arith) (row_replaced_same N E T n _ _ _ _ (λ i j a b. refl) (λ i j a b. refl) row y₁ values h copied.value))
        (copied_kept N copied n (omega arith)) update.factors;
    steps = update.steps ∙ row_replaced_count_same N E T n _ _ _ _ (λ i j a b. refl) (λ i j a b. refl) row y₁ values h copied.value;
  }
