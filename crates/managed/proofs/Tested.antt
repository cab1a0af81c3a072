-- The order by lengths and data is that of the very instance and call, and what holds where all its tests pass, call by call.
use mathlib.Core.Path.{◌≡◌, refl}
use mathlib.Core.Bool.{true}
use mathlib.Core.Option.{Option, none}
use mathlib.Core.List.{List}
use Prim.Native.Nat.{ℕ, ◌+◌, ◌<◌}
use native.Mathlib.Nat.{add-zero}
use lib.ListN.{length}
use Rattle.numbers.specs.NumberForm.{NumberForm}
use Rattle.machine.specs.Solves.{diagonals}
use Rattle.machine.specs.Calls.{push, replace_row, replace_column, remove, solve, solve_transpose, Answer, refused, ◌or_else◌}
use Rattle.machine.specs.LentData.{first_non_finite, data_test}
use Rattle.machine.specs.Machine.{push_tests, replacement_tests, remove_tests, rhs_test, index_tests}
use Rattle.machine.proofs.Refusals.{or_else_none, equations_hold, equation_holds, index_within}
use Rattle.storage.specs.Views.{view_u}
use Rattle.managed.specs.declared.LentLengths.{LentLengths}
use Rattle.managed.specs.Instance.{Instance, lengths_of, StateValue, lent_to_solve}
use Rattle.managed.specs.Refusals.{lent_tests, capacity_test, room_test, update_tests, solve_tests, refusal_at}
use Rattle.managed.proofs.Refusals.{StoragePassed, storage_passed, OrderPassed, order_passed, UpdatePassed, update_passed, capacity_passed}

-- ---- the order

module _ (N : NumberForm) (s : Instance N.Value) where
  open N use {Value}

  pub push_tested : (row column : List Value) (d : Value)
      → refusal_at N s (push row column d) ≡ update_tests s.n s.c (lengths_of s) (capacity_test s.n s.c) (push_tests s.n (length row) (length column)) (data_test N (push row column d)) (s.n + 1)
  unfolding refusal_at index_tests
  push_tested row column d = refl

  pub row_tested : (r : ℕ) (values : List Value) → refusal_at N s (replace_row r values) ≡ update_tests s.n s.c (lengths_of s) none (replacement_tests s.n r (refused 5) (length values)) (first_non_finite N 0 values) s.n
  unfolding refusal_at index_tests
  row_tested r values = rw add-zero refl

  pub column_tested : (k : ℕ) (values : List Value) → refusal_at N s (replace_column k values) ≡ update_tests s.n s.c (lengths_of s) none (replacement_tests s.n k (refused 6) (length values)) (first_non_finite N 0 values) s.n
  unfolding refusal_at index_tests
  column_tested k values = rw add-zero refl

  pub remove_tested : (r k : ℕ) → refusal_at N s (remove r k) ≡ update_tests s.n s.c (lengths_of s) none (remove_tests s.n r k) none s.n
  unfolding refusal_at index_tests first_non_finite
  remove_tested r k = rw add-zero refl

module _ (N : NumberForm) (v : StateValue) (l u rhs : List N.Value) where
  pub solve_tested : refusal_at N (lent_to_solve v l u) (solve rhs)
      ≡ solve_tests v.n v.capacity (length l) (length u) (rhs_test v.n (length rhs) or_else diagonals N (view_u N v.capacity u) v.n)
  unfolding refusal_at index_tests first_non_finite
  solve_tested = refl

  pub transpose_tested : refusal_at N (lent_to_solve v l u) (solve_transpose rhs)
      ≡ solve_tests v.n v.capacity (length l) (length u) (rhs_test v.n (length rhs) or_else diagonals N (view_u N v.capacity u) v.n)
  unfolding refusal_at index_tests first_non_finite
  transpose_tested = refl

-- ---- all passed

module _ (n c : ℕ) (lent : LentLengths) where
  -- an update: its storage and workspaces, and its own parts
  own_passed : (capacity indices values : Option Answer) (m : ℕ) → update_tests n c lent capacity indices values m ≡ none → UpdatePassed n c lent m × (capacity ≡ none) × (indices ≡ none)
  own_passed capacity indices values m e =
      let p : OrderPassed (lent_tests true n c lent) capacity indices values (room_test m lent.y) = order_passed e in
      (update_passed n c lent m p.is_lent p.has_room, p.has_capacity, p.has_indices)

  pub push_passed : (row column : ℕ) (values : Option Answer) → update_tests n c lent (capacity_test n c) (push_tests n row column) values (n + 1) ≡ none → UpdatePassed n c lent (n + 1) × (n < c) × (row ≡ n) × (column ≡ n)
  push_passed row column values e =
      let p = own_passed (capacity_test n c) (push_tests n row column) values (n + 1) e in
      let lengths = equations_hold row n column n 7 p.2 in
      (p.0, capacity_passed n c p.0.storage.dimension p.1, lengths.0, lengths.1)

  pub replacement_passed : (index : ℕ) (outside : Answer) (long : ℕ) (values : Option Answer) → update_tests n c lent none (replacement_tests n index outside long) values n ≡ none → UpdatePassed n c lent n × (index < n) × (long ≡ n)
  replacement_passed index outside long values e =
      let p = own_passed none (replacement_tests n index outside long) values n e in
      let both = or_else_none _ _ p.2 in
      (p.0, index_within n index outside both.0, equation_holds long n 7 both.1)

  pub remove_passed : (row column : ℕ) → update_tests n c lent none (remove_tests n row column) none n ≡ none → UpdatePassed n c lent n × (row < n) × (column < n)
  remove_passed row column e =
      let p = own_passed none (remove_tests n row column) none n e in
      let both = or_else_none _ _ p.2 in
      (p.0, index_within n row (refused 5) both.0, index_within n column (refused 6) both.1)

pub solve_passed : (n c l u rhs : ℕ) (d : Option Answer) → solve_tests n c l u (rhs_test n rhs or_else d) ≡ none → StoragePassed n c l u × (rhs ≡ n)
solve_passed n c l u rhs d e =
    let p = order_passed {capacity = none} {values = none} {room = none} e in
    (storage_passed n c l u (or_else_none _ _ p.is_lent).0, equation_holds rhs n 7 (or_else_none _ d p.has_indices).0)
