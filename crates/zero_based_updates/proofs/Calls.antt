-- The machine's call for each update: it reads of y and z what the call was given.
use mathlib.Core.Path.{◌≡◌, refl, sym}
use mathlib.Core.List.{List}
use Prim.Native.Nat.{ℕ, suc, ◌-◌, ◌<◌}
use native.Mathlib.Omega.{arith}
use Rattle.numbers.specs.NumberForm.{NumberForm}
use Rattle.machine.specs.Tables.{tabulate}
use Rattle.machine.specs.Products.{entry}
use Rattle.machine.specs.Calls.{push, replace_row, replace_column, remove}
use Rattle.machine.specs.Machine.{accepted}
use Rattle.machine.proofs.Choice.{tabulate_at, within_state}
use Rattle.machine.proofs.Updates.{pushed_same, column_replaced_same, row_replaced_same}
use Rattle.storage.specs.Updated.{CarriedOut}
use Rattle.storage.proofs.Frames.{updated_as}
use Rattle.zero_based_tests.specs.declared.Update.TheVariants.{Push, ReplaceColumn, ReplaceRow, Remove}
use Rattle.zero_based_updates.specs.UpdateDone.{call_of, UpdateDone}

module _ (N : NumberForm) where
  open N use {Value, absent}

  -- a list's first k entries, as the call takes them
  taken : (k : ℕ) (l : List Value) (j : ℕ) → j < k → entry N l j ≡ entry N (tabulate k (entry N l)) j
  taken k l j h = sym (tabulate_at k (entry N l) absent j h)

  -- e and t are the tolerances that the update was given
  module _ (E T : Value) {e t : Value} (is-E : e ≡ E) (is_T : t ≡ T) {c n : ℕ} {l u y z w l' u' y' z' w' : List Value} {k : ℕ} where
    pub push_performed : CarriedOut N e t c (n - 1) n (push y z (entry N y (n - 1))) l u y z w l' u' y' z' w' k → UpdateDone N E T Push c n l u y z w l' u' y' z' w'
    unfolding call_of accepted
    push_performed d =
        rw (← is-E, ← is_T) (updated_as N (within_state (suc (n - 1)) (omega arith)
        (pushed_same N e t (n - 1) _ _ _ _ (λ i j a b. refl) (λ i j a b. refl) y _ z _ (entry N y (n - 1)) (taken (n - 1) y) (taken (n - 1) z)))
        d.factors)

    pub column_performed : {column : ℕ} → column < n → CarriedOut N e t c n n (replace_column column z) l u y z w l' u' y' z' w' k
        → UpdateDone N E T (ReplaceColumn column) c n l u y z w l' u' y' z' w'
    unfolding call_of accepted
    column_performed {column} h d =
        rw (← is-E, ← is_T) (updated_as N (within_state n (omega arith) (column_replaced_same N e t n _ _ _ _ (λ i j a b. refl) (λ i j a b. refl) column z _ h (taken n z))) d.factors)

    pub row_performed : {row : ℕ} → row < n → CarriedOut N e t c n n (replace_row row y) l u y z w l' u' y' z' w' k
        → UpdateDone N E T (ReplaceRow row) c n l u y z w l' u' y' z' w'
    unfolding call_of accepted
    row_performed {row} h d =
        rw (← is-E, ← is_T) (updated_as N (within_state n (omega arith) (row_replaced_same N e t n _ _ _ _ (λ i j a b. refl) (λ i j a b. refl) row y _ h (taken n y))) d.factors)

    pub remove_performed : {row column : ℕ} → CarriedOut N e t c n n (remove row column) l u y z w l' u' y' z' w' k
        → UpdateDone N E T (Remove row column) c n l u y z w l' u' y' z' w'
    unfolding call_of
    remove_performed d = rw (← is-E, ← is_T) d.factors
