-- The states of document 01's bench table and of the lines beside it, and a call on them under the managed tolerances.
use Rattle.std.specs.Prelude.{cond, List, [], ◌∷◌, ℕ, ◌+◌, ◌*◌, eqb, get_or, Float}
use Rattle.std.specs.Float.{nan, binary64}
use Rattle.std.specs.Float.Ieee.{add, sub, mul, div, le, lt, eq, neg, of_bits}
use Rattle.numbers.specs.NumberForm.{ieee, nearest, absolute, whole}
use Rattle.numbers.specs.Tolerances.{managed_epsilon, update_tiny, managed_tiny}
use Rattle.numbers.specs.PairStep.{pair_step, first, second}
use Rattle.machine.specs.Tables.{State}
use Rattle.machine.specs.Products.{sum, product, product_transposed}
use Rattle.machine.specs.Forward.{copy_dense_to_row, transform_rows, forward_acts, forward_transform, forward_row, forward_rows, forward}
use Rattle.machine.specs.Backward.{copy_row_to_dense, negligible, trim, clear_dense, backward_skips, backward_transform, backward_row, backward_rows, backward}
use Rattle.machine.specs.Updates.{put_column, put_selected, column_copied, bordered, column_cleared, unit_row}
use Rattle.machine.specs.Updates.{restored_from, restored, pushed, column_replaced, row_replaced_from, row_replaced, column_dropped, removed}
use Rattle.machine.specs.Solves.{substituted, back_substitution, forward_substitution, solution, solution_transpose, diagonals}
use Rattle.machine.specs.Calls.{Call, push, Result}
use Rattle.machine.specs.LentData.{first_non_finite}
use Rattle.machine.specs.Machine.{index_tests, refusal, accepted, step_under, step}

-- What a call leaves under the managed tolerances where nothing is refused. Who unfolds it unfolds the whole machine but its refusals.
unfoldable pub carried_out : State Float → Call Float → Result Float
unfolding accepted solution solution_transpose substituted back_substitution forward_substitution
    pushed bordered column_replaced put_column restored restored_from put_selected row_replaced row_replaced_from column_cleared unit_row removed column_dropped column_copied
    forward copy_dense_to_row forward_rows forward_row forward_acts forward_transform transform_rows
    backward copy_row_to_dense negligible trim backward_rows backward_row clear_dense backward_skips backward_transform
    product product_transposed sum pair_step first second managed_epsilon update_tiny nearest absolute add sub mul div le lt eq neg of_bits
carried_out = accepted (ieee binary64) (managed_epsilon binary64) (managed_tiny binary64)

-- a call under the managed tolerances
unfoldable pub call : State Float → Call Float → Result Float
unfolding carried_out step step_under refusal index_tests first_non_finite diagonals
call = step (ieee binary64) (managed_epsilon binary64) (managed_tiny binary64)

-- dimension 0: a NaN stands wherever no call has written
unfoldable pub empty : State Float
empty = record { n = 0; L = λ i j. nan; U = λ i j. nan }

-- dimension 1, by a push
unfoldable pub single : Float → State Float
unfolding call empty
single d = (call empty (push [] [] d)).after

unfoldable pub P : State Float
unfolding call single
P = (call (single (whole 2)) (push (whole 4 ∷ []) (whole 6 ∷ []) (whole 1))).after

-- dimension 2 with an L that, unlike P's, is not symmetric: the rows (2,6) and (1,1)
unfoldable pub Q : State Float
unfolding call single
Q = (call (single (whole 2)) (push (whole 1 ∷ []) (whole 6 ∷ []) (whole 1))).after

-- dimension 3 with those entries, row by row; of U's, what stands below the diagonal is not active
unfoldable pub square : List Float → List Float → State Float
square L U = record { n = 3; L = λ i j. get_or L (i * 3 + j) nan; U = λ i j. get_or U (i * 3 + j) nan }

unfoldable pub M : State Float
unfolding square
M = square
    (whole 0 ∷ whole 2 ∷ whole 0 ∷ whole 0 ∷ neg (whole 1) ∷ neg (whole 1) ∷ whole 3 ∷ neg (whole 2) ∷ whole 2 ∷ [])
    (whole 2 ∷ neg (whole 2) ∷ whole 1 ∷ nan ∷ whole 2 ∷ whole 2 ∷ nan ∷ nan ∷ whole 0 ∷ [])

-- L's column 1 ends in a zero, which Backward trims
unfoldable pub M' : State Float
unfolding square
M' = square
    (neg (whole 2) ∷ neg (whole 1) ∷ whole 0 ∷ whole 4 ∷ neg (whole 2) ∷ neg (whole 2) ∷ neg (whole 1) ∷ whole 0 ∷ neg (whole 1) ∷ [])
    (neg (whole 2) ∷ whole 2 ∷ whole 4 ∷ nan ∷ neg (whole 1) ∷ neg (whole 4) ∷ nan ∷ nan ∷ whole 1 ∷ [])

-- the identity
unfoldable pub identity : ℕ → State Float
identity k = record { n = k; L = λ i j. cond (eqb i j) (whole 1) (whole 0); U = λ i j. cond (eqb i j) (whole 1) (whole 0) }
