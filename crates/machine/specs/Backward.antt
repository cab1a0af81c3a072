-- Document 01's Backward: the entries of v above `selected` are eliminated, the row of U that they leave open being held in dense (y).
use Rattle.std.specs.Prelude.{Bool, cond, ◌&&◌, ℕ, zero, suc, ◌-◌, leb, ltb, eqb}
use Rattle.numbers.specs.NumberForm.{NumberForm}
use Rattle.numbers.specs.PairStep.{Step, pair_step, first, second}
use Rattle.machine.specs.Tables.{Vector, Work, put}
use Rattle.machine.specs.Forward.{transform_rows}

module _ {A : Type 0} where
  -- dense(j) takes U(selected,j) for j from selected below columns
  unfoldable pub copy_row_to_dense : ℕ → ℕ → Work A → Work A
  copy_row_to_dense selected columns S = record {
    L = S.L;
    U = S.U;
    y = λ j. cond (leb selected j && ltb j columns) (S.U selected j) (S.y j);
    v = S.v;
  }

module _ (N : NumberForm) where
  open N use {Value, zero as 𝟎, mul, abs, le}

  -- |v(selected)| ≤ E
  unfoldable pub negligible : Value → Value → Bool
  negligible E value = le (abs value) E

  -- while selected > first and |v(selected)| ≤ E, selected falls by one
  unfoldable pub trim : Value → ℕ → ℕ → Vector Value → ℕ
  trim E start zero v = zero
  trim E start (suc s) v = cond (ltb start (suc s) && negligible E (v (suc s))) (trim E start s v) (suc s)

  -- dense(row) becomes +0
  unfoldable pub clear_dense : ℕ → Work Value → Work Value
  clear_dense row S = record { L = S.L; U = S.U; y = put row 𝟎 S.y; v = S.v }

  -- |v(row)| ≤ E × |v(selected)|: false at a NaN, which is not passed over
  unfoldable pub backward_skips : Value → Value → Value → Bool
  backward_skips E pivot value = le (abs value) (mul E (abs pivot))

  -- the pair step p on v(selected) and v(row), applied to dense(j) (first) and U(row,j) (second) for j from row below columns, and to L rows selected (first) and row (second)
  unfoldable pub backward_transform : ℕ → ℕ → ℕ → Step Value → Work Value → Work Value
  backward_transform selected columns row p S = record {
    L = transform_rows N p.swap p.multiplier selected row S.L;
    U = λ i j.
        cond (eqb i row && (leb row j && ltb j columns)) (second N p.swap p.multiplier (S.y j) (S.U i j)) (S.U i j);
    y = λ j. cond (leb row j && ltb j columns) (first N p.swap (S.y j) (S.U row j)) (S.y j);
    v = λ j. cond (eqb j selected) p.x (cond (eqb j row) 𝟎 (S.v j));
  }

module _ (N : NumberForm) (E T : N.Value) where
  open N use {Value}

  unfoldable pub backward_row : ℕ → ℕ → ℕ → Work Value → Work Value
  backward_row selected columns row S =
      let cleared = clear_dense N row S in
      let transformed = backward_transform N selected columns row (pair_step N T (S.v selected) (S.v row)) cleared in
      cond (backward_skips N E (S.v selected) (S.v row)) cleared transformed

  -- the rows selected − 1 down to selected − k are done
  unfoldable pub backward_rows : ℕ → ℕ → ℕ → Work Value → Work Value
  backward_rows selected columns zero S = S
  backward_rows selected columns (suc k) S = backward_row selected columns (selected - suc k) (backward_rows selected columns k S)

  -- Backward (first, selected, columns, dense, v), once it is trimmed
  unfoldable pub backward : ℕ → ℕ → ℕ → Work Value → Work Value
  backward start selected columns S = backward_rows selected columns (selected - start) (copy_row_to_dense selected columns S)
