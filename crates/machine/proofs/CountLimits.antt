-- How many pair steps a call makes at most: one for each row that Forward and Backward go over.
use mathlib.Core.Bool.{Bool, true, false, cond}
use mathlib.Core.List.{List, []}
use mathlib.Core.Option.{Option, none, some}
use Prim.Native.Nat.{ℕ, zero, suc, ◌+◌, ◌-◌, ◌*◌, ◌≤◌}
use native.Mathlib.Omega.{arith}
use lib.Dec.{ltb, eqb}
use Rattle.numbers.specs.NumberForm.{NumberForm}
use Rattle.machine.specs.Tables.{Table, State, Work}
use Rattle.machine.specs.Products.{entry}
use Rattle.machine.specs.Forward.{forward_acts, forward_rows}
use Rattle.machine.specs.Backward.{trim, backward_skips, backward_rows}
use Rattle.machine.specs.Updates.{bordered}
use Rattle.machine.specs.Calls.{Call, push, replace_row, replace_column, remove, solve, solve_transpose, Answer}
use Rattle.machine.specs.Counts.{forward_row_count, backward_row_count, forward_rows_count, forward_count, backward_rows_count, backward_count, restored_from_count, restored_count, pushed_count, column_replaced_count, row_replaced_from_count, row_replaced_count, column_dropped_count, removed_count, accepted_count, count_under, count_limit, count_most}
use Rattle.machine.proofs.Backward.{trim_le}

-- one number or another
either_le : (b : Bool) {x y limit : ℕ} → x ≤ limit → y ≤ limit → cond b x y ≤ limit
either_le true h g = h
either_le false h g = g

-- a sum of two
sum_le : {a b x y limit : ℕ} → a ≤ x → b ≤ y → x + y ≤ limit → a + b ≤ limit
sum_le h g l = omega arith

module _ (N : NumberForm) (E : N.Value) where
  open N use {Value}

  pub forward_row_count_le : (row : ℕ) (S : Work Value) → forward_row_count N E row S ≤ 1
  unfolding forward_row_count
  forward_row_count_le row S = either_le (forward_acts N E (S.U row row) (S.y row)) (omega arith) (omega arith)

  pub backward_row_count_le : (selected row : ℕ) (S : Work Value) → backward_row_count N E selected row S ≤ 1
  unfolding backward_row_count
  backward_row_count_le selected row S = either_le (backward_skips N E (S.v selected) (S.v row)) (omega arith) (omega arith)

module _ (N : NumberForm) (E T : N.Value) where
  open N use {Value}

  -- ---- Forward and Backward: one for each row

  pub forward_rows_count_le : (start last columns k : ℕ) (S : Work Value) → forward_rows_count N E T start last columns k S ≤ k
  unfolding forward_rows_count
  forward_rows_count_le start last columns zero S = omega arith
  forward_rows_count_le start last columns (suc k) S =
      omega (arith, forward_rows_count_le start last columns k S, forward_row_count_le N E (start + k) (forward_rows N E T start last columns k S))

  pub forward_count_le : (start last columns : ℕ) (S : Work Value) → forward_count N E T start last columns S ≤ last - start
  unfolding forward_count
  forward_count_le start last columns S = forward_rows_count_le start last columns (last - start) S

  pub backward_rows_count_le : (selected columns k : ℕ) (S : Work Value) → backward_rows_count N E T selected columns k S ≤ k
  unfolding backward_rows_count
  backward_rows_count_le selected columns zero S = omega arith
  backward_rows_count_le selected columns (suc k) S =
      omega (arith, backward_rows_count_le selected columns k S, backward_row_count_le N E selected (selected - suc k) (backward_rows N E T selected columns k S))

  pub backward_count_le : (start selected columns : ℕ) (S : Work Value) → backward_count N E T start selected columns S ≤ selected - start
  unfolding backward_count
  backward_count_le start selected columns S = backward_rows_count_le selected columns (selected - start) _

  -- ---- the updates

  -- Backward ends above row k + 1, and Forward begins with row k
  restored_from_count_le : (k selected columns : ℕ) (S : Work Value) → restored_from_count N E T k selected columns S ≤ 2 * (selected - k) - 1
  unfolding restored_from_count
  restored_from_count_le k selected columns S =
      sum_le (backward_count_le (suc k) selected columns S) (forward_count_le k selected columns _) (omega arith)

  restored_count_le : (k last columns : ℕ) (S : Work Value) → restored_count N E T k last columns S ≤ 2 * (last - k) - 1
  unfolding restored_count
  restored_count_le k last columns S =
      omega (arith, trim_le N E (suc k) last S.v, restored_from_count_le k (trim N E (suc k) last S.v) columns S)

  pushed_count_le : (n : ℕ) (L U : Table Value) (row column : List Value) (d : Value) → pushed_count N E T n L U row column d ≤ n
  unfolding pushed_count
  pushed_count_le n L U row column d = omega (arith, forward_count_le 0 n (suc n) (bordered N n L U row column d))

  column_replaced_count_le : (n : ℕ) (L U : Table Value) (k : ℕ) (column : List Value) → column_replaced_count N E T n L U k column ≤ 2 * (n - 1 - k) - 1
  unfolding column_replaced_count
  column_replaced_count_le n L U k column = either_le (ltb (suc k) n) (restored_count_le k (n - 1) n _) (omega arith)

  row_replaced_from_count_le : (n : ℕ) (L U : Table Value) (r : ℕ) (row : List Value) (selected : ℕ) → row_replaced_from_count N E T n L U r row selected ≤ 2 * selected
  unfolding row_replaced_from_count
  row_replaced_from_count_le n L U r row selected = sum_le (backward_count_le 0 selected n _) (forward_count_le 0 selected n _) (omega arith)

  row_replaced_count_le : (n : ℕ) (L U : Table Value) (r : ℕ) (row : List Value) → row_replaced_count N E T n L U r row ≤ 2 * (n - 1)
  unfolding row_replaced_count
  row_replaced_count_le n L U r row =
      let first = pushed_count_le 0 L U [] [] (entry N row 0) in
      let selected = trim N E 0 (n - 1) (λ i. L i r) in
      let from = row_replaced_from_count_le n L U r row selected in
      either_le (eqb n 1) (omega arith) (omega (arith, trim_le N E 0 (n - 1) (λ i. L i r), from))

  pub column_dropped_count_le : (p : ℕ) (L U : Table Value) (k : ℕ) → column_dropped_count N E T p L U k ≤ 2 * (p - k) - 1
  unfolding column_dropped_count
  column_dropped_count_le p L U k = either_le (ltb k p) (restored_count_le k p p _) (omega arith)

  removed_count_le : (p : ℕ) (L U : Table Value) (r k : ℕ) → removed_count N E T p L U r k ≤ 2 * (p - k) - 1 + p
  unfolding removed_count
  removed_count_le p L U r k = sum_le (column_dropped_count_le p L U k) (backward_count_le 0 p p _) (omega arith)

  -- ---- a call

  accepted_count_le : (S : State Value) (c : Call Value) → accepted_count N E T S c ≤ count_most S.n c
  unfolding accepted_count
  accepted_count_le S (push row column d) = pushed_count_le S.n S.L S.U row column d
  accepted_count_le S (replace_row r row) = row_replaced_count_le S.n S.L S.U r row
  accepted_count_le S (replace_column k column) = column_replaced_count_le S.n S.L S.U k column
  accepted_count_le S (remove r k) = removed_count_le (S.n - 1) S.L S.U r k
  accepted_count_le S (solve b) = omega arith
  accepted_count_le S (solve_transpose b) = omega arith

  pub count_under_most : (o : Option Answer) (S : State Value) (c : Call Value) → count_under N E T o S c ≤ count_most S.n c
  unfolding count_under
  count_under_most none S c = accepted_count_le S c
  count_under_most (some a) S c = omega arith

  most_within : (n : ℕ) (c : Call Value) → count_most n c ≤ count_limit n c
  most_within n (push row column d) = omega arith
  most_within n (replace_row r row) = omega arith
  most_within n (replace_column k column) = omega arith
  most_within n (remove r k) = omega arith
  most_within n (solve b) = omega arith
  most_within n (solve_transpose b) = omega arith

  -- whatever refuses the call or accepts it
  pub count_under_le : (o : Option Answer) (S : State Value) (c : Call Value) → count_under N E T o S c ≤ count_limit S.n c
  count_under_le o S c = omega (arith, count_under_most o S c, most_within S.n c)
