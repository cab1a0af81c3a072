-- Document 01's Forward: a row below U's diagonal, in y, is eliminated by the rows above it, and takes its place in U.
use Rattle.std.specs.Prelude.{Bool, cond, ◌&&◌, ℕ, zero, suc, ◌+◌, ◌-◌, leb, ltb, eqb}
use Rattle.numbers.specs.NumberForm.{NumberForm}
use Rattle.numbers.specs.PairStep.{Step, pair_step, first, second}
use Rattle.machine.specs.Tables.{Table, Work}

module _ {A : Type 0} where
  -- U(last,j) takes y(j), j from last below columns
  unfoldable pub copy_dense_to_row : ℕ → ℕ → Work A → Work A
  copy_dense_to_row last columns S = record {
    L = S.L;
    U = λ i j. cond (eqb i last && (leb last j && ltb j columns)) (S.y j) (S.U i j);
    y = S.y;
    v = S.v;
  }

module _ (N : NumberForm) where
  open N use {Value, zero as 𝟎, mul, abs, lt}

  -- a pair step with that swap and m applied to the rows a (first) and b (second) of a table, in all columns
  unfoldable pub transform_rows : Bool → Value → ℕ → ℕ → Table Value → Table Value
  transform_rows swap m a b L i j =
      cond (eqb i a) (first N swap (L a j) (L b j)) (cond (eqb i b) (second N swap m (L a j) (L b j)) (L i j))

  -- |y(row)| > E × |U(row,row)|: false at a NaN, which passes untouched
  unfoldable pub forward_acts : Value → Value → Value → Bool
  forward_acts E pivot value = lt (mul E (abs pivot)) (abs value)

  -- the pair step p on U(row,row) and y(row), applied to U(row,j) (first), y(j) (second) for j from row + 1 below columns, and to L rows row (first) and last (second)
  unfoldable pub forward_transform : ℕ → ℕ → ℕ → Step Value → Work Value → Work Value
  forward_transform last columns row p S = record {
    L = transform_rows p.swap p.multiplier row last S.L;
    U = λ i j.
        cond (eqb i row)
        (cond (eqb j row) p.x (cond (ltb row j && ltb j columns) (first N p.swap (S.U i j) (S.y j)) (S.U i j)))
        (S.U i j);
    y = λ j.
        cond (eqb j row) 𝟎 (cond (ltb row j && ltb j columns) (second N p.swap p.multiplier (S.U row j) (S.y j)) (S.y j));
    v = S.v;
  }

module _ (N : NumberForm) (E T : N.Value) where
  open N use {Value}

  unfoldable pub forward_row : ℕ → ℕ → ℕ → Work Value → Work Value
  forward_row last columns row S =
      let transformed = forward_transform N last columns row (pair_step N T (S.U row row) (S.y row)) S in
      cond (forward_acts N E (S.U row row) (S.y row)) transformed S

  -- k rows from `start` upward are done
  unfoldable pub forward_rows : ℕ → ℕ → ℕ → ℕ → Work Value → Work Value
  forward_rows start last columns zero S = S
  forward_rows start last columns (suc k) S = forward_row last columns (start + k) (forward_rows start last columns k S)

  -- Forward (first, last, columns, y)
  unfoldable pub forward : ℕ → ℕ → ℕ → Work Value → Work Value
  forward start last columns S = copy_dense_to_row last columns (forward_rows start last columns (last - start) S)
