-- Independence of Backward: it reads the factors and v below m, and nothing that it finds in dense.
use mathlib.Core.Path.{◌≡◌, refl}
use mathlib.Core.Bool.{Bool, true, false, cond, ◌&&◌}
use Prim.Native.Nat.{ℕ, zero, suc, ◌-◌, ◌≤◌, ◌<◌}
use native.Mathlib.Omega.{arith}
use lib.Dec.{T as So, leb, ltb, eqb, ltb→lt, le→leb, lt→ltb, T_not}
use lib.Ieee.Fits.{and_i, and_l, and_r}
use Rattle.numbers.specs.NumberForm.{NumberForm}
use Rattle.numbers.specs.PairStep.{Step, pair_step, first, second}
use Rattle.machine.specs.Tables.{Vector, Work}
use Rattle.machine.specs.Backward.{copy_row_to_dense, negligible, trim, clear_dense, backward_skips, backward_transform, backward_row, backward_rows, backward}
use Rattle.machine.specs.Agreement.{AgreeWithin}
use Rattle.machine.proofs.Choice.{neqb→ne, choose, in_range, within_cond, within_from}
use Rattle.machine.proofs.Forward.{transform_rows_same}

module _ (N : NumberForm) (E : N.Value) where
  open N use {Value}

  pub trim_same : (start s : ℕ) (v u : Vector Value) → ((j : ℕ) → j ≤ s → v j ≡ u j) → trim N E start s v ≡ trim N E start s u
  unfolding trim
  trim_same start zero v u h = refl
  trim_same start (suc s) v u h =
      λ t. cond (ltb start (suc s) && negligible N E (h (suc s) (omega arith) t)) (trim_same start s v u (λ j l. h j (omega arith)) t) (suc s)

  -- start ≤ trim ≤ s
  pub trim_le : (start s : ℕ) (v : Vector Value) → trim N E start s v ≤ s
  unfolding trim
  trim_le start zero v = omega arith
  trim_le start (suc s) v = go (ltb start (suc s) && negligible N E (v (suc s))) (trim_le start s v)
    where
      go : (b : Bool) → trim N E start s v ≤ s → cond b (trim N E start s v) (suc s) ≤ suc s
      go true h = omega arith
      go false h = omega arith

  pub trim_ge : (start s : ℕ) (v : Vector Value) → start ≤ s → start ≤ trim N E start s v
  unfolding trim
  trim_ge start zero v l = l
  trim_ge start (suc s) v l = go (ltb start (suc s) && negligible N E (v (suc s))) (λ t. trim_ge start s v (falls t))
    where
      falls : So (ltb start (suc s) && negligible N E (v (suc s))) → start ≤ s
      falls t = omega (arith, ltb→lt start (suc s) (and_l (ltb start (suc s)) (negligible N E (v (suc s))) t))

      go : (b : Bool) → (So b → start ≤ trim N E start s v) → start ≤ cond b (trim N E start s v) (suc s)
      go true h = h tt
      go false h = l

module _ (N : NumberForm) (E T : N.Value) (m columns : ℕ) (hc : columns ≤ m) where
  open N use {Value, zero as 𝟎}

  pub copy_row_same : (selected lo : ℕ) {S R : Work Value} → AgreeWithin m lo columns m S R
      → AgreeWithin m selected columns m (copy_row_to_dense selected columns S) (copy_row_to_dense selected columns R)
  unfolding copy_row_to_dense
  copy_row_same selected lo h = record {
    L = h.L;
    U = h.U;
    y = λ j a b. choose (leb selected j && ltb j columns)
        (λ _. h.U selected j a (omega arith))
        (λ s. absurd (T_not (leb selected j && ltb j columns) s (and_i (leb selected j) (ltb j columns) (le→leb selected j a) (lt→ltb j columns b))));
    v = h.v;
  }

  clear_dense_same : (row lo : ℕ) {S R : Work Value} → lo ≤ suc row → AgreeWithin m lo columns m S R
      → AgreeWithin m row columns m (clear_dense N row S) (clear_dense N row R)
  unfolding clear_dense
  clear_dense_same row lo ho h = record {
    L = h.L;
    U = h.U;
    y = λ j a b. choose (eqb j row) (λ _. refl) (λ s. h.y j (omega (arith, neqb→ne j row s)) b);
    v = h.v;
  }

  pub backward_transform_same : (selected row : ℕ) {p q : Step Value} {S R : Work Value} → p ≡ q → selected < m → row < m → AgreeWithin m row columns m S R
      → AgreeWithin m row columns m (backward_transform N selected columns row p S) (backward_transform N selected columns row q R)
  unfolding backward_transform
  backward_transform_same selected row {p} {q} {S} {R} e hs hr h = record {
    L = transform_rows_same N m _ _ S.L R.L e (omega arith) (omega arith) h.L;
    U = λ i j hij hj. choose (eqb i row && (leb row j && ltb j columns))
        (λ s. let f = in_range row columns j (and_r (eqb i row) (leb row j && ltb j columns) s) in λ t. second N (e t).swap (e t).multiplier (h.y j f.0 f.1 t) (h.U i j hij hj t))
        (λ _. h.U i j hij hj);
    y = λ j a b. choose (leb row j && ltb j columns) (λ _ t. first N (e t).swap (h.y j a b t) (h.U row j a (omega arith) t)) (λ _. h.y j a b);
    v = λ j hj t. cond (eqb j selected) (e t).x (cond (eqb j row) 𝟎 (h.v j hj t));
  }

  pub backward_row_same : (selected row lo : ℕ) {S R : Work Value} → selected < m → row < m → lo ≤ suc row → AgreeWithin m lo columns m S R
      → AgreeWithin m row columns m (backward_row N E T selected columns row S) (backward_row N E T selected columns row R)
  unfolding backward_row
  backward_row_same selected row lo {S} {R} hs hr ho h =
      let u : S.v selected ≡ R.v selected = h.v selected hs in
      let x : S.v row ≡ R.v row = h.v row hr in
      let c = clear_dense_same row lo ho h in
      within_cond _ _ (λ t. backward_skips N E (u t) (x t)) c (backward_transform_same selected row (λ t. pair_step N T (u t) (x t)) hs hr c)

  pub backward_rows_same : (selected d : ℕ) {S R : Work Value} → selected < m → d ≤ selected → AgreeWithin m selected columns m S R
      → AgreeWithin m (selected - d) columns m (backward_rows N E T selected columns d S) (backward_rows N E T selected columns d R)
  unfolding backward_rows
  backward_rows_same selected zero hs hd h = within_from (omega arith) h
  backward_rows_same selected (suc d) hs hd h =
      backward_row_same selected (selected - suc d) (selected - d) hs (omega arith) (omega arith) (backward_rows_same selected d hs (omega arith) h)

  -- whatever stands in y
  pub backward_same : (start selected lo : ℕ) {S R : Work Value} → selected < m → start ≤ selected → AgreeWithin m lo columns m S R
      → AgreeWithin m start columns m (backward N E T start selected columns S) (backward N E T start selected columns R)
  unfolding backward
  backward_same start selected lo hs ho h =
      within_from (omega arith) (backward_rows_same selected (selected - start) hs (omega arith) (copy_row_same selected lo h))
