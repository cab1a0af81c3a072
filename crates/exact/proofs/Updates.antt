-- Each update keeps L × A = U, and that L sends only the zero column to zero, A being what Matrix.antt makes of it.
use mathlib.Core.Path.{◌≡◌, refl, sym, ap, ap₂, subst, ◌∙◌}
use mathlib.Core.Bool.{cond}
use mathlib.Core.List.{List, []}
use mathlib.Core.Logic.{◌≢◌}
use Prim.Native.Nat.{ℕ, zero, suc, ◌-◌, ◌≤◌, ◌<◌}
use native.Mathlib.Omega.{arith}
use lib.Dec.{ltb, eqb}
use borrow.Author.Tests.{ltb-true, ltb-false, eqb-true, lt-ltb, le-ltb, le-leb, lt-leb, eq-eqb, ne_eqb}
use Rattle.numbers.specs.NumberForm.{NumberForm}
use Rattle.machine.specs.Tables.{Vector, Table, Work, put}
use Rattle.machine.specs.Products.{entry, sum, product}
use Rattle.machine.specs.Backward.{trim, backward}
use Rattle.machine.specs.Calls.{Call, push, replace_row, replace_column, remove}
use Rattle.machine.specs.Updates.{put_column, put_selected, column_copied, bordered, column_cleared, column_product, last_column_read, column_taken, column_moved, unit_row, restored_from, restored, pushed, column_replaced, row_replaced_from, row_replaced, column_dropped, removed}
use Rattle.machine.proofs.Backward.{trim_le, trim_ge}
use Rattle.exact.specs.Matrix.{updated}
use Rattle.exact.proofs.Ring.{tested, equal_or_not, below_or_not, column_of, with_column, zero_mul, mul_zero, Σ, Σ_same, Σ_except, Σ_unit, image, Factorization, factorization_same, right_same, column_in, empty_factorization, zero_vector}
use Rattle.exact.proofs.Elimination.{ExactLaws, values, triangle, with_row, vector_of, forward_kept, trim_zero, BackwardState, backward_state}

module _ {N : NumberForm} (Λ : ExactLaws N) where
  open N use {Value, zero as 𝟘, mul}
  open Λ use {ring, val, val_zero, val_one, val_add, val_mul}
  open ring use {F, 𝟎, ◌⊕◌, ◌⊗◌, add_zero}

  infixl 60 ◌⊕◌
  infixl 70 ◌⊗◌
  val_sum : (k : ℕ) (t : Vector Value) → val (sum N k t) ≡ Σ ring k (vector_of Λ t)
  unfolding sum Σ
  val_sum zero t = val_zero
  val_sum (suc k) t = val_add (sum N k t) (t k) ∙ ap (λ (x : F). x ⊕ val (t k)) (val_sum k t)

  pub val_product : (n : ℕ) (L : Table Value) (x : Vector Value) (i : ℕ) → val (product N n L x i) ≡ image ring n (values Λ L) (vector_of Λ x) i
  unfolding product
  val_product n L x i = val_sum n (λ j. mul (L i j) (x j)) ∙ Σ_same ring n _ _ (λ j hj. val_mul (L i j) (x j))

  -- L A = U in the columns below q, with zeros below U's diagonal, and L sends only the zero column to zero
  abbrev pub Invariant : (n q : ℕ) (A L U : Table Value) → Type 0
  Invariant n q A L U = Factorization ring n q (values Λ A) (values Λ L) (triangle Λ U)

  -- A after a call
  abbrev pub next : ℕ → Table Value → Call Value → Table Value
  next n A c = (updated N (record { n = n; entries = A }) c).entries

  -- ---- push

  module _ (n : ℕ) (A L U : Table Value) (row column : List Value) (d : Value) (h : Invariant n n A L U) where
    abbrev A₊ : Table Value
    A₊ = next n A (push row column d)

    S : Work Value
    S = bordered N n L U row column d

    border_last : (x : Vector F) → image ring (suc n) (values Λ S.L) x n ≡ x n
    unfolding S bordered
    border_last x =
        Σ_unit ring (suc n) n (λ j. val (S.L n j)) x (omega arith) (rw (eq-eqb n n refl) val_one) (λ j hj e. rw (eq-eqb n n refl, ne_eqb j n e) val_zero)

    border_image : (x : Vector F) (i : ℕ) → i < n → image ring (suc n) (values Λ S.L) x i ≡ image ring n (values Λ L) x i
    unfolding S bordered column_cleared Σ
    border_image x i hi =
        ap₂ ◌⊕◌ (Σ_same ring n _ _ (λ j hj. rw (ne_eqb i n (omega arith), ne_eqb j n (omega arith), values)))
        (rw (ne_eqb i n (omega arith), eq-eqb n n refl, val_zero, values) (zero_mul ring (x n)))
        ∙ add_zero (image ring n (values Λ L) x i)

    bordered_factorization : Factorization ring (suc n) (suc n) (values Λ A₊) (values Λ S.L) (with_row Λ n 0 S)
    unfolding updated S bordered
    bordered_factorization = record {
      product = λ i k hi hk. equal_or_not i n
          (λ e. rw e (border_last (column_of (values Λ A₊) k) ∙ last_row k))
          (λ e. border_image (column_of (values Λ A₊) k) i (omega arith)
          ∙ equal_or_not k n (λ f. rw f (last_column i (omega arith))) (λ f. inside i k (omega arith) (omega arith)));
      regular = λ x z j hj. equal_or_not j n
          (λ e. rw e (sym (border_last x) ∙ z n (omega arith)))
          (λ e. h.regular x (λ i hi. sym (border_image x i hi) ∙ z i (omega arith)) j (omega arith));
    }
      where
        last_row : (k : ℕ) → val (A₊ n k) ≡ with_row Λ n 0 S n k
        last_row k = rw (eq-eqb n n refl, le-leb 0 k (omega arith))

        last_column : (i : ℕ) → i < n → image ring n (values Λ L) (column_of (values Λ A₊) n) i ≡ with_row Λ n 0 S i n
        last_column i hi = rw (ne_eqb i n (omega arith), le-leb i n (omega arith), eq-eqb n n refl)
            (Σ_same ring n _ _ (λ j hj. rw (ne_eqb j n (omega arith), eq-eqb n n refl, values)) ∙ sym (val_product n L (entry N column) i))

        inside : (i k : ℕ) → i < n → k < n → image ring n (values Λ L) (column_of (values Λ A₊) k) i ≡ with_row Λ n 0 S i k
        inside i k hi hk = rw (ne_eqb i n (omega arith), ne_eqb k n (omega arith))
            (Σ_same ring n _ _ (λ j hj. rw (ne_eqb j n (omega arith), ne_eqb k n (omega arith), values)) ∙ h.product i k hi hk)

    pub pushed_kept : Invariant (suc n) (suc n) A₊ (pushed N 𝟘 𝟘 n L U row column d).L (pushed N 𝟘 𝟘 n L U row column d).U
    unfolding pushed S
    pushed_kept =
        forward_kept Λ (suc n) (suc n) (values Λ A₊) 0 n (omega arith) (omega arith) S bordered_factorization

  -- ---- a column put in place and the triangle restored: replace column, and the first half of remove

  module _ (n q k last : ℕ) (hl : suc last ≡ n) (hk : suc k ≤ last) (A : Table F) (S₀ : Work Value)
      (h : Factorization ring n q A (values Λ S₀.L) (with_column k (vector_of Λ S₀.v) (triangle Λ S₀.U))) where
    abbrev s : ℕ
    s = trim N 𝟘 (suc k) last S₀.v

    s_le : s ≤ last
    s_le = trim_le N 𝟘 (suc k) last S₀.v

    s_ge : suc k ≤ s
    s_ge = trim_ge N 𝟘 (suc k) last S₀.v hk

    B : Work Value
    B = backward N 𝟘 𝟘 (suc k) s q (put_column k S₀)

    column_state : BackwardState Λ n q n k A s (omega (arith, s_le)) (put_column k S₀) (suc k) (suc k) B
    unfolding B put_column
    column_state = backward_state Λ n q n k A s (omega (arith, s_le)) (suc k) s_ge (put_column k S₀)
        (factorization_same ring (λ i j hi hj. refl) (λ i j hi hj. rw (ne_eqb j n (omega arith), values))
        (λ i j hi hj. equal_or_not j k (λ e. rw (eq-eqb j k e)) (λ d. rw (ne_eqb j k d))) h)

    -- v as Backward leaves it is column k
    column_k : (i : ℕ) → i < n → val (B.v i) ≡ cond (eqb i s) (val (B.v s)) (triangle Λ B.U i k)
    unfolding put_column
    column_k i hi = equal_or_not i s
        (λ e. rw (e, eq-eqb s s refl))
        (λ d. rw (ne_eqb i s d) (below_or_not i (suc k)
        (λ l. rw (le-leb i k (omega arith), column_state.U_kept i k l, column_state.v_before i l, eq-eqb k k refl, le-leb i k (omega arith)))
        (λ g. rw (lt-leb i k (omega arith)) (below_or_not i s
        (λ l. column_state.eliminated i g l)
        (λ u. rw (column_state.v_after i (omega arith)) (trim_zero Λ (suc k) last S₀.v i (omega arith) (omega arith)))))))

    -- y(k) takes v(selected), so that column k of row s is v's too
    selected_same : (i j : ℕ) → i < n → with_column k (vector_of Λ B.v) (with_row Λ s (suc k) B) i j ≡ with_row Λ s k (put_selected k s B) i j
    unfolding put_selected
    selected_same i j hi = equal_or_not j k
        (λ e. rw (e, eq-eqb k k refl, le-leb k k (omega arith)) (column_k i hi))
        (λ d. rw (ne_eqb j k d) (below_or_not j k (λ l. rw (lt-leb k j l, le-ltb k j (omega arith))) (λ g. rw (le-leb k j g, lt-ltb k j (omega arith)))))

    restored_kept : Factorization ring n q A (values Λ (restored N 𝟘 𝟘 k last q (put_column k S₀)).L) (triangle Λ (restored N 𝟘 𝟘 k last q (put_column k S₀)).U)
    unfolding restored restored_from B put_column put_selected
    restored_kept =
        let a = s_le in
        let b = s_ge in
        forward_kept Λ n q A k s (omega arith) (omega arith) (put_selected k s B) (factorization_same ring (λ i j hi hj. refl)
        (λ i j hi hj. rw (ne_eqb j n (omega arith), values)) (λ i j hi hj. selected_same i j hi) column_state.factorization)

  -- ---- replace column

  module _ (n : ℕ) (A L U : Table Value) (k : ℕ) (column : List Value) (hk : k < n) (h : Invariant n n A L U) where
    -- the L product of the column as column k of U
    replaced : Factorization ring n n (values Λ (next n A (replace_column k column))) (values Λ L)
        (with_column k (vector_of Λ (product N n L (entry N column))) (triangle Λ U))
    unfolding updated
    replaced = column_in ring k _ _ (omega arith) (λ i j d. rw (ne_eqb j k d, values))
        (λ i hi. Σ_same ring n _ _ (λ t ht. rw (eq-eqb k k refl, values)) ∙ sym (val_product n L (entry N column) i)) h

    pub column_replaced_kept : Invariant n n (next n A (replace_column k column)) (column_replaced N 𝟘 𝟘 n L U k column).L (column_replaced N 𝟘 𝟘 n L U k column).U
    unfolding column_replaced
    column_replaced_kept =
        let S₀ = column_product N n L U column in
        tested (ltb (suc k) n)
        (λ t. let l = ltb-true (suc k) n t in rw t (restored_kept n n k (n - 1) (omega arith) (omega arith) _ S₀ replaced))
        (λ t. let l = ltb-false (suc k) n t in rw t (unfold put_column in (right_same ring
        (λ i j hi hj. equal_or_not j k (λ e. rw (e, eq-eqb k k refl, le-leb i k (omega arith))) (λ d. rw (ne_eqb j k d))) replaced)))

  -- ---- remove, first the column; n is p + 1

  module _ (p : ℕ) (A L U : Table Value) (k : ℕ) (hk : k ≤ p) (h : Invariant (suc p) (suc p) A L U) where
    abbrev A₁ : Table Value
    A₁ i j = A i (cond (eqb j k) p j)

    dropped : Factorization ring (suc p) p (values Λ A₁) (values Λ L) (with_column k (λ i. val (U i p)) (triangle Λ U))
    dropped = column_in ring k _ _ (omega arith) (λ i j d. rw (ne_eqb j k d, values))
        (λ i hi. Σ_same ring (suc p) _ _ (λ t ht. rw (eq-eqb k k refl, values)) ∙ h.product i p hi (omega arith) ∙ rw (le-leb i p (omega arith))) h

    column_dropped_kept : Invariant (suc p) p A₁ (column_dropped N 𝟘 𝟘 p L U k).L (column_dropped N 𝟘 𝟘 p L U k).U
    unfolding column_dropped
    column_dropped_kept =
        let S₀ = last_column_read N p L U in
        tested (ltb k p)
        (λ t. rw t (restored_kept (suc p) p k p refl (ltb-true k p t) _ S₀ dropped))
        (λ t. let l = ltb-false k p t in rw t (right_same ring (λ i j hi hj. rw (ne_eqb j k (omega arith))) dropped))

  -- ---- L's column r taken out into v, whatever L' has in its place: replace row, and the second half of remove. (q is no column of U.)

  column_out : {n q : ℕ} {A : Table F} (L U : Table Value) (r : ℕ) (L' : Table Value) → ((i j : ℕ) → j ≢ r → L' i j ≡ L i j)
      → Factorization ring n q A (values Λ L) (triangle Λ U)
      → Factorization ring n q A (with_column r (λ i. val (L i r)) (values Λ L')) (with_column q (λ i. val (L i r)) (triangle Λ U))
  column_out {q = q} L U r L' other = factorization_same ring (λ i j hi hj. refl)
      (λ i j hi hj. equal_or_not j r (λ e. rw (eq-eqb j r e, e)) (λ d. rw (ne_eqb j r d) (ap val (other i j d))))
      (λ i j hi hj. rw (ne_eqb j q (omega arith)))

  -- ---- remove, then the row

  -- a sum over p + 1 terms with 0 at r, its last term moved to r
  moved_sum : (p r : ℕ) (f : Vector F) → r ≤ p → f r ≡ 𝟎 → Σ ring p (λ j. f (cond (eqb j r) p j)) ≡ Σ ring (suc p) f
  unfolding Σ
  moved_sum p r f hr z = equal_or_not r p
      (λ e. Σ_same ring p _ _ (λ j hj. rw (ne_eqb j r (omega arith))) ∙ sym (ap (λ (x : F). Σ ring p f ⊕ x) (ap f (sym e) ∙ z) ∙ add_zero (Σ ring p f)))
      (λ d. Σ_except ring p r f (λ j. f (cond (eqb j r) p j)) (omega arith) z (λ j hj e. rw (ne_eqb j r e)) ∙ rw (eq-eqb r r refl))

  module _ (p r : ℕ) (L U : Table Value) (A : Table F) (hr : r ≤ p) (h : Factorization ring (suc p) p A (values Λ L) (triangle Λ U)) where
    C₀ : Work Value
    C₀ = column_moved N p r L U

    C : Work Value
    C = backward N 𝟘 𝟘 0 p p C₀

    remove_state : BackwardState Λ (suc p) p r p A p (omega arith) C₀ 0 0 C
    unfolding C C₀ column_copied
    remove_state = backward_state Λ (suc p) p r p A p (omega arith) 0 (omega arith) C₀ (column_out L U r (column_copied p r L) (λ i j d. rw (ne_eqb j r d)) h)

    -- L with v as its column r, where it was before it was overwritten. After Backward v is 0 but at p
    M : Table F
    M = with_column r (vector_of Λ C.v) (values Λ C.L)

    M_at : (i : ℕ) → i < p → M i r ≡ 𝟎
    unfolding M
    M_at i hi = rw (eq-eqb r r refl) (remove_state.eliminated i (omega arith) hi)

    M_moved : (i j : ℕ) → i < suc p → j < p → val (C.L i j) ≡ M i (cond (eqb j r) p j)
    unfolding M C₀ column_copied
    M_moved i j hi hj = equal_or_not j r
        (λ e. rw (eq-eqb j r e, ne_eqb p r (omega arith), e) (remove_state.same_columns r p (λ i hi. rw (eq-eqb r r refl, ne_eqb p r (omega arith))) i hi))
        (λ d. rw (ne_eqb j r d, ne_eqb j r d))

    removed_factors : (i k : ℕ) → i < p → k < p → image ring p (values Λ C.L) (λ j. A (cond (eqb j r) p j) k) i ≡ triangle Λ C.U i k
    unfolding M
    removed_factors i k hi hk =
        Σ_same ring p _ _ (λ j hj. ap (λ (x : F). x ⊗ A (cond (eqb j r) p j) k) (M_moved i j (omega arith) hj))
        ∙ moved_sum p r (λ j. M i j ⊗ A j k) hr (ap (λ (x : F). x ⊗ A r k) (M_at i hi) ∙ zero_mul ring (A r k))
        ∙ remove_state.factorization.product i k (omega arith) hk
        ∙ rw (ne_eqb k p (omega arith), ne_eqb i p (omega arith))

    module _ (x : Vector F) (z : (i : ℕ) → i < p → image ring p (values Λ C.L) x i ≡ 𝟎) where
      -- x with its entry r moved to p, and 0 at r
      x₊ : Vector F
      x₊ = put r 𝟎 (put p (x r) x)

      x₊_at : x₊ r ≡ 𝟎
      unfolding x₊
      x₊_at = rw (eq-eqb r r refl)

      x₊_moved : (j : ℕ) → j < p → x₊ (cond (eqb j r) p j) ≡ x j
      unfolding x₊
      x₊_moved j hj = equal_or_not j r
          (λ e. rw (eq-eqb j r e, ne_eqb p r (omega arith), eq-eqb p p refl, e))
          (λ d. rw (ne_eqb j r d, ne_eqb j r d, ne_eqb j p (omega arith)))

      x₊_image : (i : ℕ) → i < suc p → i ≢ p → image ring (suc p) M x₊ i ≡ 𝟎
      x₊_image i hi e =
          sym (moved_sum p r (λ j. M i j ⊗ x₊ j) hr (ap (λ (t : F). M i r ⊗ t) x₊_at ∙ mul_zero ring (M i r)))
          ∙ Σ_same ring p _ _ (λ j hj. ap₂ ◌⊗◌ (sym (M_moved i j hi hj)) (x₊_moved j hj))
          ∙ z i (omega arith)

      removed_regular : (j : ℕ) → j < p → x j ≡ 𝟎
      unfolding M
      removed_regular j hj =
          sym (x₊_moved j hj)
          ∙ zero_vector ring (suc p) r p M (omega arith) remove_state.factorization.regular (λ i hi e. M_at i (omega arith)) x₊ x₊_at x₊_image _
          (equal_or_not j r (λ e. rw (eq-eqb j r e) (omega arith)) (λ d. rw (ne_eqb j r d) (omega arith)))

    row_removed_kept : Factorization ring p p (λ i j. A (cond (eqb i r) p i) j) (values Λ C.L) (triangle Λ C.U)
    row_removed_kept = record { product = removed_factors; regular = removed_regular }

  pub removed_kept : (n : ℕ) (A L U : Table Value) (r k : ℕ) → r < n → k < n → Invariant n n A L U
      → Invariant (n - 1) (n - 1) (next n A (remove r k)) (removed N 𝟘 𝟘 (n - 1) L U r k).L (removed N 𝟘 𝟘 (n - 1) L U r k).U
  unfolding updated removed C C₀
  removed_kept n A L U r k hr hk h =
      let p = n - 1 in
      let e : n ≡ suc p = omega arith in
      let D = column_dropped N 𝟘 𝟘 p L U k in
      let g : Invariant (suc p) (suc p) A L U = subst (λ (t : ℕ). Invariant t t A L U) e h in
      row_removed_kept p r D.L D.U (values Λ (A₁ p A L U k (omega arith) g)) (omega arith) (column_dropped_kept p A L U k (omega arith) g)

  -- ---- replace row

  module _ (n : ℕ) (A L U : Table Value) (r : ℕ) (row : List Value) (hr : r < n) (h : Invariant n n A L U) where
    abbrev A₂ : Table Value
    A₂ = next n A (replace_row r row)

    abbrev σ : ℕ
    σ = trim N 𝟘 0 (n - 1) (λ i. L i r)

    σ_le : σ ≤ n - 1
    σ_le = trim_le N 𝟘 0 (n - 1) (λ i. L i r)

    D₀ : Work Value
    D₀ = column_taken N r L U

    D : Work Value
    D = backward N 𝟘 𝟘 0 σ n D₀

    row_state : BackwardState Λ n n r n (values Λ A) σ (omega (arith, σ_le)) D₀ 0 0 D
    unfolding D D₀ column_cleared
    row_state = backward_state Λ n n r n (values Λ A) σ (omega (arith, σ_le)) 0 (omega arith) D₀ (column_out L U r (column_cleared N r L) (λ i j d. rw (ne_eqb j r d)) h)

    -- L with v as its column r, where it was before it was cleared. After Backward v is 0 but at σ
    G : Table F
    G = with_column r (vector_of Λ D.v) (values Λ D.L)

    G_at : (i : ℕ) → i < n → i ≢ σ → G i r ≡ 𝟎
    unfolding G D₀
    G_at i hi d = rw (eq-eqb r r refl) (below_or_not i σ
        (λ l. row_state.eliminated i (omega arith) l)
        (λ g. rw (row_state.v_after i (omega arith)) (trim_zero Λ 0 (n - 1) (λ i. L i r) i (omega arith) (omega arith))))

    W : Work Value
    W = unit_row N σ r row D

    unit_image : (x : Vector F) → image ring n (values Λ W.L) x σ ≡ x r
    unfolding W unit_row
    unit_image x =
        Σ_unit ring n r (λ j. val (W.L σ j)) x hr (rw (eq-eqb σ σ refl, eq-eqb r r refl) val_one) (λ j hj e. rw (eq-eqb σ σ refl, ne_eqb j r e) val_zero)

    -- in the other rows W's L and G act alike
    other_image : (x y : Vector F) (i : ℕ) → i < n → i ≢ σ → ((j : ℕ) → j < n → j ≢ r → x j ≡ y j) → image ring n (values Λ W.L) x i ≡ image ring n G y i
    unfolding W unit_row G D₀ column_cleared
    other_image x y i hi d e = Σ_same ring n _ _ (λ j hj. rw (ne_eqb i σ d, values) (equal_or_not j r
        (λ f. rw f (ap (λ (t : F). t ⊗ x r) (row_state.zero_column r (λ i hi. rw (eq-eqb r r refl) val_zero) i hi) ∙ zero_mul ring (x r)
        ∙ sym (ap (λ (t : F). t ⊗ y r) (G_at i hi d) ∙ zero_mul ring (y r))))
        (λ f. rw (ne_eqb j r f) (ap (λ (t : F). val (D.L i j) ⊗ t) (e j hj f)))))

    unit_factorization : Factorization ring n n (values Λ A₂) (values Λ W.L) (with_row Λ σ 0 W)
    unfolding W unit_row G updated
    unit_factorization = record {
      product = λ i k hi hk. equal_or_not i σ
          (λ e. rw (e, eq-eqb σ σ refl, le-leb 0 k (omega arith)) (unit_image (column_of (values Λ A₂) k) ∙ rw (eq-eqb r r refl, values)))
          (λ d. rw (ne_eqb i σ d) (other_image (column_of (values Λ A₂) k) (column_of (values Λ A) k) i hi d (λ j hj f. rw (ne_eqb j r f, values))
          ∙ row_state.factorization.product i k hi hk ∙ rw (ne_eqb k n (omega arith), ne_eqb i σ d)));
      regular = λ x z. let a = σ_le in
          zero_vector ring n r σ G hr row_state.factorization.regular G_at x (sym (unit_image x) ∙ z σ (omega arith))
          (λ i hi d. sym (other_image x x i hi d (λ j hj f. refl)) ∙ z i hi);
    }

    pub row_replaced_kept : Invariant n n A₂ (row_replaced N 𝟘 𝟘 n L U r row).L (row_replaced N 𝟘 𝟘 n L U r row).U
    unfolding row_replaced row_replaced_from W D D₀ updated
    row_replaced_kept = let a = σ_le in tested (eqb n 1)
        (λ t. rw t (first (eqb-true n 1 t)))
        (λ t. rw t (forward_kept Λ n n (values Λ A₂) 0 σ (omega arith) (omega arith) W unit_factorization))
      where
        -- at n = 1 as a first push
        first : n ≡ 1 → Invariant n n A₂ (pushed N 𝟘 𝟘 0 L U [] [] (entry N row 0)).L (pushed N 𝟘 𝟘 0 L U [] [] (entry N row 0)).U
        first e = subst (λ (t : ℕ). Factorization ring t t (values Λ A₂) (values Λ Q.L) (triangle Λ Q.U)) (sym e)
            (factorization_same ring one (λ i j hi hj. refl) (λ i j hi hj. refl)
            (pushed_kept 0 A L U [] [] (entry N row 0) (empty_factorization ring)))
          where
            Q : Work Value
            Q = pushed N 𝟘 𝟘 0 L U [] [] (entry N row 0)

            one : (i k : ℕ) → i < 1 → k < 1 → val (A₂ i k) ≡ val (next 0 A (push [] [] (entry N row 0)) i k)
            one i k hi hk = let a : i ≡ 0 = omega arith in let b : k ≡ 0 = omega arith in let c : r ≡ 0 = omega arith in rw (a, b, c)
