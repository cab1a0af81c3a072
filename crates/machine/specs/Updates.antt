-- The four updates of the plain machine. Each stage before Forward or Backward has a name of its own.
use Rattle.std.specs.Prelude.{cond, ◌&&◌, List, [], ℕ, suc, ◌-◌, leb, ltb, eqb}
use Rattle.numbers.specs.NumberForm.{NumberForm}
use Rattle.machine.specs.Tables.{Table, Work, put}
use Rattle.machine.specs.Products.{entry, unset, product}
use Rattle.machine.specs.Forward.{forward}
use Rattle.machine.specs.Backward.{trim, backward}

-- ---- stages

module _ {A : Type 0} where
  -- U(i,k) takes v(i), i ≤ k
  unfoldable pub put_column : ℕ → Work A → Work A
  put_column k S = record { L = S.L; U = λ i j. cond (eqb j k && leb i k) (S.v i) (S.U i j); y = S.y; v = S.v }

  -- y(k) takes v(selected)
  unfoldable pub put_selected : ℕ → ℕ → Work A → Work A
  put_selected k selected S = record { L = S.L; U = S.U; y = put k (S.v selected) S.y; v = S.v }

  -- L's column p is copied to r
  unfoldable pub column_copied : ℕ → ℕ → Table A → Table A
  column_copied p r L i j = cond (eqb j r) (L i p) (L i j)

module _ (N : NumberForm) where
  open N use {Value, zero as 𝟎, one as 𝟏}

  -- row s of a table becomes 0 with 1 at r
  abbrev pub with_unit_row : ℕ → ℕ → Table Value → Table Value
  with_unit_row s r L i j = cond (eqb i s) (cond (eqb j r) 𝟏 𝟎) (L i j)

  -- L's column r becomes 0
  unfoldable pub column_cleared : ℕ → Table Value → Table Value
  column_cleared r L i j = cond (eqb j r) 𝟎 (L i j)

  -- L's last row and column become 0 with 1 in the corner. U's last column takes the L product of column over the old n; Forward is to set its corner.
  -- y is row with d appended.
  unfoldable pub bordered : ℕ → Table Value → Table Value → List Value → List Value → Value → Work Value
  bordered n L U row column d = record {
    L = with_unit_row n n (column_cleared n L);
    U = λ i j. cond (eqb j n) (cond (eqb i n) 𝟎 (product N n L (entry N column) i)) (U i j);
    y = put n d (entry N row);
    v = unset N;
  }

  -- w is the L product of the values
  abbrev pub column_product : ℕ → Table Value → Table Value → List Value → Work Value
  column_product n L U column = record { L = L; U = U; y = unset N; v = product N n L (entry N column) }

  -- w takes U's column p
  abbrev pub last_column_read : ℕ → Table Value → Table Value → Work Value
  last_column_read p L U = record { L = L; U = U; y = unset N; v = λ i. U i p }

  -- w takes L's column r, which becomes 0
  abbrev pub column_taken : ℕ → Table Value → Table Value → Work Value
  column_taken r L U = record { L = column_cleared r L; U = U; y = unset N; v = λ i. L i r }

  -- w takes L's column r; column p is copied to r (to itself where r = p)
  abbrev pub column_moved : ℕ → ℕ → Table Value → Table Value → Work Value
  column_moved p r L U = record { L = column_copied p r L; U = U; y = unset N; v = λ i. L i r }

  -- L's row s becomes 0 with 1 at r, and y takes the values
  unfoldable pub unit_row : ℕ → ℕ → List Value → Work Value → Work Value
  unit_row s r row S = record { L = with_unit_row s r S.L; U = S.U; y = entry N row; v = S.v }

module _ (N : NumberForm) (E T : N.Value) where
  open N use {Value}

  -- Backward (k + 1, selected, columns) with dense y on v; y(k) takes v(selected); Forward (k, selected, columns) on y
  unfoldable pub restored_from : ℕ → ℕ → ℕ → Work Value → Work Value
  restored_from k selected columns S = forward N E T k selected columns (put_selected k selected (backward N E T (suc k) selected columns S))

  -- the same with Backward trimming from `last`
  unfoldable pub restored : ℕ → ℕ → ℕ → Work Value → Work Value
  restored k last columns S = restored_from k (trim N E (suc k) last S.v) columns S

  -- ---- push row, column, d: Forward (0, n − 1, n) at the new n

  unfoldable pub pushed : ℕ → Table Value → Table Value → List Value → List Value → Value → Work Value
  pushed n L U row column d = forward N E T 0 n (suc n) (bordered N n L U row column d)

  -- ---- replace column k: w is the L product of the values; U(i,k) takes w(i), i ≤ k; if k + 1 < n, Backward and Forward

  unfoldable pub column_replaced : ℕ → Table Value → Table Value → ℕ → List Value → Work Value
  column_replaced n L U k column =
      let S = put_column k (column_product N n L U column) in
      let R = restored k (n - 1) n S in
      cond (ltb (suc k) n) R S

  -- ---- replace row r: at n = 1 as a first push. Otherwise w takes L's column r, which becomes 0; Backward trimming (0, n − 1, n) on w;
  -- L's row selected becomes 0 with 1 at r; Forward (0, selected, n) on the values

  unfoldable pub row_replaced_from : ℕ → Table Value → Table Value → ℕ → List Value → ℕ → Work Value
  row_replaced_from n L U r row selected =
      forward N E T 0 selected n (unit_row N selected r row (backward N E T 0 selected n (column_taken N r L U)))

  unfoldable pub row_replaced : ℕ → Table Value → Table Value → ℕ → List Value → Work Value
  row_replaced n L U r row =
      let R = row_replaced_from n L U r row (trim N E 0 (n - 1) (λ i. L i r)) in
      let P = pushed 0 L U [] [] (entry N row 0) in
      cond (eqb n 1) P R

  -- ---- remove r, k, with p = n − 1

  -- if k < p, w takes U's column p, U(i,k) takes w(i) for i ≤ k, Backward trimming (k + 1, p, p), y(k) takes w(selected), Forward (k, selected, p)
  unfoldable pub column_dropped : ℕ → Table Value → Table Value → ℕ → Work Value
  column_dropped p L U k =
      let S = last_column_read N p L U in
      let R = restored k p p (put_column k S) in
      cond (ltb k p) R S

  -- Then w takes L's column r; column p is copied to r. Backward without trimming (0, p, p) on w.
  unfoldable pub removed : ℕ → Table Value → Table Value → ℕ → ℕ → Work Value
  removed p L U r k =
      let D = column_dropped p L U k in
      backward N E T 0 p p (column_moved N p r D.L D.U)
