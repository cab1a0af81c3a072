-- Forward and Backward over a number form whose values lie in a commutative ring, with E and T zero: each pair step is a row operation on L and on U together,
-- so that M A = R is kept, and so is that M sends only the zero column to zero.
use mathlib.Core.Path.{◌≡◌, refl, sym, ap, ap₂, ◌∙◌}
use mathlib.Core.Bool.{Bool, true, false, ◌&&◌, cond}
use mathlib.Core.Logic.{◌≢◌}
use Prim.Native.Nat.{ℕ, zero, suc, ◌+◌, ◌-◌, ◌≤◌, ◌<◌}
use native.Mathlib.Omega.{arith}
use lib.Dec.{leb, ltb, eqb}
use borrow.Author.Tests.{lt-ltb, le-ltb, le-leb, lt-leb, eq-eqb, ne_eqb}
use Rattle.numbers.specs.NumberForm.{NumberForm}
use Rattle.numbers.specs.PairStep.{Step, pair_step, first, second}
use Rattle.machine.specs.Tables.{Vector, Table, Work, put}
use Rattle.machine.specs.Forward.{copy_dense_to_row, transform_rows, forward_acts, forward_transform, forward_row, forward_rows, forward}
use Rattle.machine.specs.Backward.{copy_row_to_dense, negligible, trim, clear_dense, backward_skips, backward_transform, backward_row, backward_rows, backward}
use Rattle.exact.proofs.Ring.{tested, equal_or_not, below_or_not, cond_ap, CommutativeRing, column_of, with_column, zero_mul, Factorization, right_same, Stepped, zero_stepped, stepped_column, stepped_same, stepped_factorization}

-- What the steps need of a number form. Numbers of one value may differ, as 2/4 and 1/2. Nothing is asked of what a division by zero gives, nor of `absent`.
pub record ExactLaws (N : NumberForm) : Type 1 where
  pub ring : CommutativeRing
  pub val : N.Value → ring.F
  pub val_zero : val N.zero ≡ ring.𝟎
  pub val_one : val N.one ≡ ring.𝟏
  pub val_add : (x y : N.Value) → val (N.add x y) ≡ ring.◌⊕◌ (val x) (val y)
  pub val_mul : (x y : N.Value) → val (N.mul x y) ≡ ring.◌⊗◌ (val x) (val y)
  pub is_zero_lem : (x : N.Value) → N.is_zero x ≡ true → val x ≡ ring.𝟎
  -- the pair step with T zero: x becomes what the exchange puts first, and the second becomes zero
  pub pair_first : (x y : N.Value) → val (pair_step N N.zero x y).x ≡ val (first N (pair_step N N.zero x y).swap x y)
  pub pair_second : (x y : N.Value) → val (second N (pair_step N N.zero x y).swap (pair_step N N.zero x y).multiplier x y) ≡ ring.𝟎
  -- the tests with E zero: what is passed over is zero
  pub forward_skips : (pivot x : N.Value) → forward_acts N N.zero pivot x ≡ false → val x ≡ ring.𝟎
  pub backward_skips_lem : (pivot x : N.Value) → backward_skips N N.zero pivot x ≡ true → val x ≡ ring.𝟎
  pub trimmed : (x : N.Value) → negligible N N.zero x ≡ true → val x ≡ ring.𝟎

module _ {N : NumberForm} (Λ : ExactLaws N) where
  open N use {Value, zero as 𝟘, is_zero, mul}
  open Λ use {ring, val, val_zero, val_add, val_mul, is_zero_lem, pair_first, pair_second, forward_skips, backward_skips_lem, trimmed}
  open ring use {F, 𝟎, ◌⊕◌, ◌⊗◌, add_zero}

  infixl 60 ◌⊕◌
  infixl 70 ◌⊗◌
  -- the values of a vector and of a table
  abbrev pub vector_of : Vector Value → Vector F
  vector_of v i = val (v i)

  abbrev pub values : Table Value → Table F
  values L i j = val (L i j)

  -- the values of a row from lo on, with zeros before it; of a triangle, row i from i on; and of a triangle with y from lo on as row s
  abbrev pub row_from : ℕ → Vector Value → Vector F
  row_from lo y j = cond (leb lo j) (val (y j)) 𝟎

  abbrev pub triangle : Table Value → Table F
  triangle U i = row_from i (U i)

  abbrev pub with_row : ℕ → ℕ → Work Value → Table F
  with_row s lo S i j = cond (eqb i s) (row_from lo S.y j) (triangle S.U i j)

  -- a row that starts with a zero may start one later
  later : (lo : ℕ) (y : Vector Value) → val (y lo) ≡ 𝟎 → (j : ℕ) → row_from lo y j ≡ row_from (suc lo) y j
  later lo y z j = below_or_not j lo
      (λ l. rw (lt-leb lo j l, le-ltb lo j (omega arith)))
      (λ g. equal_or_not j lo (λ e. rw (e, le-leb lo lo (omega arith), le-ltb lo lo (omega arith)) z) (λ d. rw (le-leb lo j g, lt-ltb lo j (omega arith))))

  -- ---- what a pair step makes of two entries of a column

  val_first : (swap : Bool) (a b : Value) → val (first N swap a b) ≡ cond swap (val b) (val a)
  unfolding first
  val_first swap a b = cond_ap val swap b a

  val_second : (swap : Bool) (m a b : Value) → val (second N swap m a b) ≡ cond swap (val a) (val b) ⊕ val m ⊗ cond swap (val b) (val a)
  unfolding second
  val_second swap m a b = tested (is_zero m)
      (λ e. rw (e, is_zero_lem m e) (val_first swap b a
      ∙ sym (ap (λ (x : F). cond swap (val a) (val b) ⊕ x) (zero_mul ring (cond swap (val b) (val a))) ∙ add_zero (cond swap (val a) (val b)))))
      (λ e. rw e (val_add (first N swap b a) (mul m (first N swap a b))
      ∙ ap₂ ◌⊕◌ (val_first swap b a) (val_mul m (first N swap a b) ∙ ap (λ (x : F). val m ⊗ x) (val_first swap a b))))

  -- u, w before and u', w' after it
  abbrev Becomes : Step Value → F → F → F → F → Type 0
  Becomes p u w u' w' = (u' ≡ cond p.swap w u) × (w' ≡ cond p.swap u w ⊕ val p.multiplier ⊗ cond p.swap w u)

  -- a further pair
  further : (p : Step Value) (a b : Value) → Becomes p (val a) (val b) (val (first N p.swap a b)) (val (second N p.swap p.multiplier a b))
  further p a b = (val_first p.swap a b, val_second p.swap p.multiplier a b)

  -- the step's own pair
  own_pair : (x y : Value) → Becomes (pair_step N 𝟘 x y) (val x) (val y) (val (pair_step N 𝟘 x y).x) 𝟎
  own_pair x y =
      let p = pair_step N 𝟘 x y in
      (pair_first x y ∙ val_first p.swap x y, sym (pair_second x y) ∙ val_second p.swap p.multiplier x y)

  zero_pair : (p : Step Value) → Becomes p 𝟎 𝟎 𝟎 𝟎
  zero_pair p = let z = zero_stepped ring {swap = p.swap} {m = val p.multiplier} {a = 0} {b = 1} in (z.first, z.second)

  -- a column of L
  rows_stepped : (p : Step Value) (a b : ℕ) (L : Table Value) → b ≢ a → (j : ℕ)
      → Stepped ring p.swap (val p.multiplier) a b (column_of (values L) j) (column_of (values (transform_rows N p.swap p.multiplier a b L)) j)
  unfolding transform_rows
  rows_stepped p a b L d j = record {
    first = rw (eq-eqb a a refl, values) (further p (L a j) (L b j)).0;
    second = rw (ne_eqb b a d, eq-eqb b b refl, values) (further p (L a j) (L b j)).1;
    other = λ i x y. rw (ne_eqb i a x, ne_eqb i b y, values);
  }

  -- ---- Forward

  module _ (n q : ℕ) (A : Table F) where
    -- the rows before `row` are done: what is left of y, from row on, stands for row `last` of U
    abbrev ForwardState : ℕ → ℕ → Work Value → Type 0
    ForwardState last row S = Factorization ring n q A (values S.L) (with_row last row S)

    module _ (last row : ℕ) (hn : last < n) (hr : row < last) (S : Work Value) where
      p : Step Value
      p = pair_step N 𝟘 (S.U row row) (S.y row)

      S' : Work Value
      S' = forward_transform N last q row p S

      forward_pair : (j : ℕ) → j < q → Becomes p (triangle S.U row j) (row_from row S.y j) (triangle S'.U row j) (row_from (suc row) S'.y j)
      unfolding S' forward_transform p
      forward_pair j hj = below_or_not j row
          (λ l. rw (lt-leb row j l, le-ltb row j (omega arith)) (zero_pair p))
          (λ g. equal_or_not j row
          (λ e. rw (e, le-leb row row (omega arith), le-ltb row row (omega arith), eq-eqb row row refl) (own_pair (S.U row row) (S.y row)))
          (λ d. rw (le-leb row j g, eq-eqb row row refl, ne_eqb j row d, lt-ltb row j (omega arith), lt-ltb j q hj) (further p (S.U row j) (S.y j))))

      forward_stepped : (j : ℕ) → j < q
          → Stepped ring p.swap (val p.multiplier) row last (column_of (with_row last row S) j) (column_of (with_row last (suc row) S') j)
      unfolding S' forward_transform
      forward_stepped j hj = record {
        first = rw (ne_eqb row last (omega arith), eq-eqb last last refl) (forward_pair j hj).0;
        second = rw (ne_eqb row last (omega arith), eq-eqb last last refl) (forward_pair j hj).1;
        other = λ i x y. rw (ne_eqb i row x, ne_eqb i last y);
      }

      forward_transformed : ForwardState last row S → ForwardState last (suc row) S'
      unfolding S' forward_transform
      forward_transformed = stepped_factorization ring (omega arith) hn (λ j hj. rows_stepped p row last S.L (omega arith) j) forward_stepped

      forward_passed : val (S.y row) ≡ 𝟎 → ForwardState last row S → ForwardState last (suc row) S
      forward_passed z = right_same ring (λ i j hi hj t. cond (eqb i last) (later row S.y z j t) (triangle S.U i j))

      forward_row_lem : ForwardState last row S → ForwardState last (suc row) (forward_row N 𝟘 𝟘 last q row S)
      unfolding forward_row S' p
      forward_row_lem h = tested (forward_acts N 𝟘 (S.U row row) (S.y row))
          (λ e. rw e (forward_transformed h))
          (λ e. rw e (forward_passed (forward_skips (S.U row row) (S.y row) e) h))

    module _ (start last : ℕ) (hn : last < n) (hs : start ≤ last) (S : Work Value) (h : ForwardState last start S) where
      forward_rows_lem : (k : ℕ) → start + k ≤ last → ForwardState last (start + k) (forward_rows N 𝟘 𝟘 start last q k S)
      unfolding forward_rows
      forward_rows_lem zero l = let e : start + 0 ≡ start = omega arith in rw e h
      forward_rows_lem (suc k) l =
          let e : start + suc k ≡ suc (start + k) = omega arith in
          rw e (forward_row_lem last (start + k) hn (omega arith) (forward_rows N 𝟘 𝟘 start last q k S) (forward_rows_lem k (omega arith)))

      -- Forward leaves U triangular.
      pub forward_kept : Factorization ring n q A (values (forward N 𝟘 𝟘 start last q S).L) (triangle (forward N 𝟘 𝟘 start last q S).U)
      unfolding forward copy_dense_to_row
      forward_kept =
          let e : start + (last - start) ≡ last = omega arith in
          right_same ring (λ i j hi hj. equal_or_not i last
          (λ d. rw (d, eq-eqb last last refl) (below_or_not j last (λ l. rw (lt-leb last j l)) (λ g. rw (le-leb last j g, lt-ltb j q hj))))
          (λ d. rw (ne_eqb i last d))) (rw e at (forward_rows_lem (last - start) (omega arith)))

  -- ---- Backward

  pub trim_zero : (start top : ℕ) (v : Vector Value) (i : ℕ) → trim N 𝟘 start top v < i → i ≤ top → val (v i) ≡ 𝟎
  unfolding trim
  trim_zero start zero v i h k = absurd (omega arith)
  trim_zero start (suc t) v i h k = go (ltb start (suc t)) (negligible N 𝟘 (v (suc t))) refl h (trim_zero start t v i)
    where
      go : (a b : Bool) → negligible N 𝟘 (v (suc t)) ≡ b → cond (a && b) (trim N 𝟘 start t v) (suc t) < i
          → (trim N 𝟘 start t v < i → i ≤ t → val (v i) ≡ 𝟎) → val (v i) ≡ 𝟎
      go true true e l rest = equal_or_not i (suc t) (λ d. rw d (trimmed (v (suc t)) e)) (λ d. rest l (omega arith))
      go true false e l rest = absurd (omega arith)
      go false b e l rest = absurd (omega arith)

  -- M is L with v as column r, and R is U with dense as row s and v as column k. (An r or a k that is out of range stands for no column.)
  module _ (n q r k : ℕ) (A : Table F) (s : ℕ) (hn : s < n) where
    -- S is what Backward has made of S₀: the rows from `row` below s are done, and dense holds its row from lo on
    pub record BackwardState (S₀ : Work Value) (lo row : ℕ) (S : Work Value) : Type 0 where
      pub factorization : Factorization ring n q A (with_column r (vector_of S.v) (values S.L)) (with_column k (vector_of S.v) (with_row s lo S))
      pub eliminated : (i : ℕ) → row ≤ i → i < s → val (S.v i) ≡ 𝟎
      pub v_before : (i : ℕ) → i < row → S.v i ≡ S₀.v i
      pub v_after : (i : ℕ) → s < i → S.v i ≡ S₀.v i
      pub U_kept : (i j : ℕ) → i < row → S.U i j ≡ S₀.U i j
      -- of the columns of L, one that is zero stays so, and two that are the same
      pub zero_column : (j : ℕ) → ((i : ℕ) → i < n → val (S₀.L i j) ≡ 𝟎) → (i : ℕ) → i < n → val (S.L i j) ≡ 𝟎
      pub same_columns : (j h : ℕ) → ((i : ℕ) → i < n → val (S₀.L i j) ≡ val (S₀.L i h)) → (i : ℕ) → i < n → val (S.L i j) ≡ val (S.L i h)

    module _ (row : ℕ) (hr : row < s) (S₀ : Work Value) where
      -- dense(row) becomes +0, which is what stood for it
      cleared : (S : Work Value) → BackwardState S₀ (suc row) (suc row) S → BackwardState S₀ row (suc row) (clear_dense N row S)
      unfolding clear_dense
      cleared S b = record {
        factorization = right_same ring (λ i j hi hj t. cond (eqb j k) (val (S.v i)) (cond (eqb i s) (dense j t) (triangle S.U i j))) b.factorization;
        eliminated = b.eliminated;
        v_before = b.v_before;
        v_after = b.v_after;
        U_kept = b.U_kept;
        zero_column = b.zero_column;
        same_columns = b.same_columns;
      }
        where
          after : (j : ℕ) → row_from (suc row) S.y j ≡ row_from (suc row) (put row 𝟘 S.y) j
          after j = equal_or_not j row (λ e. rw (e, le-ltb row row (omega arith))) (λ d. rw (ne_eqb j row d))

          dense : (j : ℕ) → row_from (suc row) S.y j ≡ row_from row (put row 𝟘 S.y) j
          dense j = after j ∙ sym (later row (put row 𝟘 S.y) (rw (eq-eqb row row refl) val_zero) j)

      module _ (S : Work Value) (b : BackwardState S₀ row (suc row) S) where
        g : Step Value
        g = pair_step N 𝟘 (S.v s) (S.v row)

        B : Work Value
        B = backward_transform N s q row g S

        backward_pair : (j : ℕ) → j < q → Becomes g (row_from row S.y j) (triangle S.U row j) (row_from row B.y j) (triangle B.U row j)
        unfolding B backward_transform g
        backward_pair j hj = below_or_not j row
            (λ l. rw (lt-leb row j l) (zero_pair g))
            (λ h. rw (le-leb row j h, eq-eqb row row refl, lt-ltb j q hj) (further g (S.y j) (S.U row j)))

        row_stepped : (j : ℕ) → j < q → Stepped ring g.swap (val g.multiplier) s row (column_of (with_row s row S) j) (column_of (with_row s row B) j)
        unfolding B backward_transform
        row_stepped j hj = record {
          first = rw (ne_eqb row s (omega arith), eq-eqb s s refl) (backward_pair j hj).0;
          second = rw (ne_eqb row s (omega arith), eq-eqb s s refl) (backward_pair j hj).1;
          other = λ i x y. rw (ne_eqb i row y, ne_eqb i s x);
        }

        v_stepped : Stepped ring g.swap (val g.multiplier) s row (vector_of S.v) (vector_of B.v)
        unfolding B backward_transform g
        v_stepped = record {
          first = rw (eq-eqb s s refl, vector_of) (own_pair (S.v s) (S.v row)).0;
          second = rw (ne_eqb row s (omega arith), eq-eqb row row refl, val_zero, vector_of) (own_pair (S.v s) (S.v row)).1;
          other = λ i x y. rw (ne_eqb i row y, ne_eqb i s x, vector_of);
        }

        L_stepped : (j : ℕ) → Stepped ring g.swap (val g.multiplier) s row (column_of (values S.L) j) (column_of (values B.L) j)
        unfolding B backward_transform
        L_stepped j = rows_stepped g s row S.L (omega arith) j

        transformed : BackwardState S₀ row row B
        unfolding B backward_transform
        transformed = record {
          factorization = stepped_factorization ring hn (omega arith) (λ j hj. stepped_column ring r j v_stepped (L_stepped j))
              (λ j hj. stepped_column ring k j v_stepped (row_stepped j hj)) b.factorization;
          eliminated = λ i h l. rw (ne_eqb i s (omega arith))
              (equal_or_not i row (λ e. rw (eq-eqb i row e) val_zero) (λ d. rw (ne_eqb i row d) (b.eliminated i (omega arith) l)));
          v_before = λ i h. rw (ne_eqb i s (omega arith), ne_eqb i row (omega arith)) (b.v_before i (omega arith));
          v_after = λ i h. rw (ne_eqb i s (omega arith), ne_eqb i row (omega arith)) (b.v_after i h);
          U_kept = λ i j h. rw (ne_eqb i row (omega arith)) (b.U_kept i j (omega arith));
          zero_column = λ j z. stepped_same ring hn (omega arith) (L_stepped j) (zero_stepped ring) (b.zero_column j z);
          same_columns = λ j h e. stepped_same ring hn (omega arith) (L_stepped j) (L_stepped h) (b.same_columns j h e);
        }

        passed : val (S.v row) ≡ 𝟎 → BackwardState S₀ row row S
        passed z = record {
          factorization = b.factorization;
          eliminated = λ i h l. equal_or_not i row (λ e. rw e z) (λ d. b.eliminated i (omega arith) l);
          v_before = λ i h. b.v_before i (omega arith);
          v_after = b.v_after;
          U_kept = λ i j h. b.U_kept i j (omega arith);
          zero_column = b.zero_column;
          same_columns = b.same_columns;
        }

      backward_row_lem : (S : Work Value) → BackwardState S₀ (suc row) (suc row) S → BackwardState S₀ row row (backward_row N 𝟘 𝟘 s q row S)
      unfolding backward_row B g clear_dense
      backward_row_lem S b = tested (backward_skips N 𝟘 (S.v s) (S.v row))
          (λ e. rw e (passed (clear_dense N row S) (cleared S b) (backward_skips_lem (S.v s) (S.v row) e)))
          (λ e. rw e (transformed (clear_dense N row S) (cleared S b)))

    module _ (start : ℕ) (hs : start ≤ s) (S₀ : Work Value)
        (h₀ : Factorization ring n q A (with_column r (vector_of S₀.v) (values S₀.L)) (with_column k (vector_of S₀.v) (triangle S₀.U))) where
      at_row : {a c : ℕ} {S : Work Value} → a ≡ c → BackwardState S₀ a a S → BackwardState S₀ c c S
      at_row e b = rw e at b

      copied : BackwardState S₀ s s (copy_row_to_dense s q S₀)
      unfolding copy_row_to_dense
      copied = record {
        factorization = right_same ring (λ i j hi hj t. cond (eqb j k) (val (S₀.v i)) (sym (row_s i j hj) t)) h₀;
        eliminated = λ i h l. absurd (omega arith);
        v_before = λ i h. refl;
        v_after = λ i h. refl;
        U_kept = λ i j h. refl;
        zero_column = λ j z. z;
        same_columns = λ j h e. e;
      }
        where
          row_s : (i j : ℕ) → j < q → with_row s s (copy_row_to_dense s q S₀) i j ≡ triangle S₀.U i j
          row_s i j hj = equal_or_not i s
              (λ e. rw (e, eq-eqb s s refl) (below_or_not j s (λ l. rw (lt-leb s j l)) (λ h. rw (le-leb s j h, lt-ltb j q hj))))
              (λ d. rw (ne_eqb i s d))

      backward_rows_lem : (d : ℕ) → d ≤ s - start → BackwardState S₀ (s - d) (s - d) (backward_rows N 𝟘 𝟘 s q d (copy_row_to_dense s q S₀))
      unfolding backward_rows
      backward_rows_lem zero h = at_row (omega arith) copied
      backward_rows_lem (suc d) h = backward_row_lem (s - suc d) (omega arith) S₀ _ (at_row (omega arith) (backward_rows_lem d (omega arith)))

      pub backward_state : BackwardState S₀ start start (backward N 𝟘 𝟘 start s q S₀)
      unfolding backward
      backward_state = at_row (omega arith) (backward_rows_lem (s - start) (omega arith))
