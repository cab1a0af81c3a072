-- Independence of the four updates, for two states of dimension n that agree, and for data that agree below n.
use mathlib.Core.Path.{◌≡◌, refl, sym, subst}
use mathlib.Core.Bool.{◌&&◌}
use mathlib.Core.List.{List, []}
use Prim.Native.Nat.{ℕ, suc, ◌-◌, ◌≤◌, ◌<◌}
use native.Mathlib.Omega.{arith}
use lib.Dec.{leb, ltb, eqb, ltb→lt, eqb→eq}
use Rattle.numbers.specs.NumberForm.{NumberForm}
use Rattle.machine.specs.Tables.{Table, Work}
use Rattle.machine.specs.Products.{entry}
use Rattle.machine.specs.Forward.{copy_dense_to_row, forward_rows, forward}
use Rattle.machine.specs.Backward.{trim, backward}
use Rattle.machine.specs.Updates.{put_column, put_selected, column_copied, bordered, column_cleared, column_product, last_column_read, column_taken, column_moved, unit_row, restored_from, restored, pushed, column_replaced, row_replaced_from, row_replaced, column_dropped, removed}
use Rattle.machine.specs.Agreement.{AgreeWithin}
use Rattle.machine.proofs.Choice.{neqb→ne, choose, within_choose, within_from}
use Rattle.machine.proofs.Products.{product_same}
use Rattle.machine.proofs.Forward.{forward_same}
use Rattle.machine.proofs.Backward.{trim_same, trim_le, trim_ge, backward_same}

module _ (N : NumberForm) (E T : N.Value) where
  open N use {Value, one as 𝟏}

  -- ---- a column put in place and the triangle restored: replace column, and the first half of remove

  module _ (n columns k : ℕ) (hc : columns ≤ n) (hk : k < columns) where
    put_column_same : {S R : Work Value} → AgreeWithin n columns columns n S R → AgreeWithin n columns columns n (put_column k S) (put_column k R)
    unfolding put_column
    put_column_same h = record {
      L = h.L;
      U = λ i j hij hj. choose (eqb j k && leb i k) (λ _. h.v i (omega arith)) (λ _. h.U i j hij hj);
      y = h.y;
      v = h.v;
    }

    pub put_selected_same : (selected : ℕ) {S R : Work Value} → selected < n → AgreeWithin n (suc k) columns n S R
        → AgreeWithin n k columns n (put_selected k selected S) (put_selected k selected R)
    unfolding put_selected
    put_selected_same selected hs h = record {
      L = h.L;
      U = h.U;
      y = λ j p l. choose (eqb j k) (λ _. h.v selected hs) (λ s. h.y j (omega (arith, neqb→ne j k s)) l);
      v = h.v;
    }

    restored_from_same : (selected lo : ℕ) {S R : Work Value} → suc k ≤ selected → selected < n → selected ≤ columns → AgreeWithin n lo columns n S R
        → AgreeWithin n k columns n (restored_from N E T k selected columns S) (restored_from N E T k selected columns R)
    unfolding restored_from
    restored_from_same selected lo hl hs hm h =
        forward_same N E T n columns n hc k selected hs (omega arith) hm
        (put_selected_same selected hs (backward_same N E T n columns hc (suc k) selected lo hs hl h))

    pub restored_same : (last lo : ℕ) {S R : Work Value} → suc k ≤ last → last < n → last ≤ columns → AgreeWithin n lo columns n S R
        → AgreeWithin n k columns n (restored N E T k last columns S) (restored N E T k last columns R)
    unfolding restored
    restored_same last lo {S} {R} hl hn hm h =
        let s = trim N E (suc k) last S.v in
        let a : s ≤ last = trim_le N E (suc k) last S.v in
        let b : suc k ≤ s = trim_ge N E (suc k) last S.v hl in
        subst (λ (t : ℕ). AgreeWithin n k columns n (restored_from N E T k s columns S) (restored_from N E T k t columns R))
        (trim_same N E (suc k) last S.v R.v (λ j l. h.v j (omega arith)))
        (restored_from_same s lo b (omega arith) (omega arith) h)

  -- ---- the calls

  -- At new n = 1: L = 1, U = d.
  pub first_push : (L U : Table Value) (d : Value) → ((pushed N E T 0 L U [] [] d).L 0 0 ≡ 𝟏) × ((pushed N E T 0 L U [] [] d).U 0 0 ≡ d)
  unfolding pushed bordered forward forward_rows copy_dense_to_row
  first_push L U d = (refl, refl)

  module _ (n : ℕ) (L U L' U' : Table Value) (hL : (i j : ℕ) → i < n → j < n → L i j ≡ L' i j) (hU : (i j : ℕ) → i ≤ j → j < n → U i j ≡ U' i j) where
    pub bordered_same : (row row' column column' : List Value) (d : Value) → ((j : ℕ) → j < n → entry N row j ≡ entry N row' j) → ((j : ℕ) → j < n → entry N column j ≡ entry N column' j)
        → AgreeWithin (suc n) 0 (suc n) (suc n) (bordered N n L U row column d) (bordered N n L' U' row' column' d)
    unfolding bordered column_cleared
    bordered_same row row' column column' d er ec = record {
      L = λ i j hi hj. choose (eqb i n) (λ _. refl) (λ a. choose (eqb j n) (λ _. refl) (λ b. hL i j (omega (arith, neqb→ne i n a)) (omega (arith, neqb→ne j n b))));
      U = λ i j hij hj. choose (eqb j n)
          (λ _. choose (eqb i n) (λ _. refl) (λ a. product_same N n L L' _ _ hL (search) i (omega (arith, neqb→ne i n a))))
          (λ b. hU i j hij (omega (arith, neqb→ne j n b)));
      y = λ j _ hj. choose (eqb j n) (λ _. refl) (λ b. er j (omega (arith, neqb→ne j n b)));
      v = λ j _. refl;
    }

    pub pushed_same : (row row' column column' : List Value) (d : Value) → ((j : ℕ) → j < n → entry N row j ≡ entry N row' j) → ((j : ℕ) → j < n → entry N column j ≡ entry N column' j)
        → AgreeWithin (suc n) 0 (suc n) (suc n) (pushed N E T n L U row column d) (pushed N E T n L' U' row' column' d)
    unfolding pushed
    pushed_same row row' column column' d er ec =
        forward_same N E T (suc n) (suc n) (suc n) (omega arith) 0 n (omega arith) (omega arith) (omega arith) (bordered_same row row' column column' d er ec)

    -- w is the L product of the values, and U(i,k) takes w(i)
    pub column_placed_same : (k : ℕ) (column column' : List Value) → k < n → ((j : ℕ) → j < n → entry N column j ≡ entry N column' j)
        → AgreeWithin n n n n (put_column k (column_product N n L U column)) (put_column k (column_product N n L' U' column'))
    column_placed_same k column column' hk ec = put_column_same n n k (omega arith) hk (record {
      L = hL;
      U = hU;
      y = λ j a b. absurd (omega arith);
      v = product_same N n L L' _ _ hL ec;
    })

    pub column_replaced_same : (k : ℕ) (column column' : List Value) → k < n → ((j : ℕ) → j < n → entry N column j ≡ entry N column' j)
        → AgreeWithin n n n n (column_replaced N E T n L U k column) (column_replaced N E T n L' U' k column')
    unfolding column_replaced
    column_replaced_same k column column' hk ec =
        let h = column_placed_same k column column' hk ec in
        within_choose (ltb (suc k) n)
        (λ s. let l = ltb→lt (suc k) n s in within_from (omega arith) (restored_same n n k (omega arith) hk (n - 1) n (omega arith) (omega arith) (omega arith) h))
        (λ _. h)

    -- w takes U's last column
    last_column_read_same : 0 < n → AgreeWithin n (n - 1) (n - 1) n (last_column_read N (n - 1) L U) (last_column_read N (n - 1) L' U')
    last_column_read_same h = record { L = hL; U = hU; y = λ j a b. refl; v = λ i hi. hU i (n - 1) (omega arith) (omega arith) }

    pub last_column_placed_same : (k : ℕ) → k < n - 1
        → AgreeWithin n (n - 1) (n - 1) n (put_column k (last_column_read N (n - 1) L U)) (put_column k (last_column_read N (n - 1) L' U'))
    last_column_placed_same k hk = put_column_same n (n - 1) k (omega arith) hk (last_column_read_same (omega arith))

    pub column_dropped_same : (k : ℕ) → k < n → AgreeWithin n n (n - 1) n (column_dropped N E T (n - 1) L U k) (column_dropped N E T (n - 1) L' U' k)
    unfolding column_dropped
    column_dropped_same k hk =
        let p = n - 1 in
        within_choose (ltb k p)
        (λ s. let l : k < p = ltb→lt k p s in within_from (omega arith) (restored_same n p k (omega arith) l p p l (omega arith) (omega arith) (last_column_placed_same k l)))
        (λ _. within_from (omega arith) (last_column_read_same (omega arith)))

    -- w takes L's column r, and the last column is copied to r
    pub column_moved_same : (r k : ℕ) → r < n → k < n
        → (let D = column_dropped N E T (n - 1) L U k in
        let D' = column_dropped N E T (n - 1) L' U' k in
        AgreeWithin n 0 (n - 1) n (column_moved N (n - 1) r D.L D.U) (column_moved N (n - 1) r D'.L D'.U))
    unfolding column_copied
    column_moved_same r k hr hk =
        let d = column_dropped_same k hk in
        record {
          L = λ i j hi hj. choose (eqb j r) (λ _. d.L i _ hi (omega arith)) (λ _. d.L i j hi hj);
          U = d.U;
          y = λ j _ _. refl;
          v = λ j hj. d.L j r hj hr;
        }

    pub removed_same : (r k : ℕ) → r < n → k < n → AgreeWithin n 0 (n - 1) n (removed N E T (n - 1) L U r k) (removed N E T (n - 1) L' U' r k)
    unfolding removed
    removed_same r k hr hk = backward_same N E T n (n - 1) (omega arith) 0 (n - 1) 0 (omega arith) (omega arith) (column_moved_same r k hr hk)

    -- w takes L's column r, which becomes 0
    pub column_taken_same : (r : ℕ) → r < n → AgreeWithin n 0 n n (column_taken N r L U) (column_taken N r L' U')
    unfolding column_cleared
    column_taken_same r hr = record {
      L = λ i j hi hj. choose (eqb j r) (λ _. refl) (λ _. hL i j hi hj);
      U = hU;
      y = λ j _ _. refl;
      v = λ j hj. hL j r hj hr;
    }

    unit_row_same : (s r : ℕ) (row row' : List Value) (lo : ℕ) {S R : Work Value} → ((j : ℕ) → j < n → entry N row j ≡ entry N row' j) → AgreeWithin n lo n n S R
        → AgreeWithin n 0 n n (unit_row N s r row S) (unit_row N s r row' R)
    unfolding unit_row
    unit_row_same s r row row' lo er h = record {
      L = λ i j hi hj. choose (eqb i s) (λ _. refl) (λ _. h.L i j hi hj);
      U = h.U;
      y = λ j _ hj. er j hj;
      v = h.v;
    }

    -- Forward's start, after Backward
    pub unit_row_set_same : (r : ℕ) (row row' : List Value) (selected : ℕ) → r < n → selected < n → ((j : ℕ) → j < n → entry N row j ≡ entry N row' j)
        → AgreeWithin n 0 n n (unit_row N selected r row (backward N E T 0 selected n (column_taken N r L U))) (unit_row N selected r row' (backward N E T 0 selected n (column_taken N r L' U')))
    unit_row_set_same r row row' selected hr hs er =
        unit_row_same selected r row row' 0 er (backward_same N E T n n (omega arith) 0 selected 0 hs (omega arith) (column_taken_same r hr))

    row_replaced_from_same : (r : ℕ) (row row' : List Value) (selected : ℕ) → r < n → selected < n → ((j : ℕ) → j < n → entry N row j ≡ entry N row' j)
        → AgreeWithin n 0 n n (row_replaced_from N E T n L U r row selected) (row_replaced_from N E T n L' U' r row' selected)
    unfolding row_replaced_from
    row_replaced_from_same r row row' selected hr hs er =
        forward_same N E T n n n (omega arith) 0 selected hs (omega arith) (omega arith) (unit_row_set_same r row row' selected hr hs er)

  pub row_replaced_same : (n : ℕ) (L U L' U' : Table Value) → ((i j : ℕ) → i < n → j < n → L i j ≡ L' i j) → ((i j : ℕ) → i ≤ j → j < n → U i j ≡ U' i j)
      → (r : ℕ) (row row' : List Value) → r < n → ((j : ℕ) → j < n → entry N row j ≡ entry N row' j)
      → AgreeWithin n 0 n n (row_replaced N E T n L U r row) (row_replaced N E T n L' U' r row')
  unfolding row_replaced
  row_replaced_same n L U L' U' hL hU r row row' hr er =
      let s = trim N E 0 (n - 1) (λ i. L i r) in
      let hs : s ≤ n - 1 = trim_le N E 0 (n - 1) (λ i. L i r) in
      within_choose (eqb n 1)
      (λ e. subst (λ (m : ℕ). AgreeWithin m 0 m m (pushed N E T 0 L U [] [] (entry N row 0)) (pushed N E T 0 L' U' [] [] (entry N row' 0))) (sym (eqb→eq n 1 e))
      (subst (λ (d : Value). AgreeWithin 1 0 1 1 (pushed N E T 0 L U [] [] (entry N row 0)) (pushed N E T 0 L' U' [] [] d)) (er 0 (omega arith))
      (pushed_same 0 L U L' U' (λ i j a b. absurd (omega arith)) (λ i j a b. absurd (omega arith)) [] [] [] [] (entry N row 0) (λ j h. refl) (λ j h. refl))))
      (λ _. subst (λ (t : ℕ). AgreeWithin n 0 n n (row_replaced_from N E T n L U r row s) (row_replaced_from N E T n L' U' r row' t))
      (trim_same N E 0 (n - 1) (λ i. L i r) (λ i. L' i r) (λ j l. hL j r (omega arith) hr))
      (row_replaced_from_same n L U L' U' hL hU r row row' s hr (omega arith) er))
