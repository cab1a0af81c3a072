-- The theorem at lists of calls: its premise holds of each update, and of a singular A.
use mathlib.Core.Path.{refl}
use mathlib.Core.List.{List, [], ◌∷◌, ◌++◌}
use native.Mathlib.Omega.{arith}
use Rattle.machine.specs.Calls.{Call, replace_row, replace_column}
use Rattle.machine.specs.LentData.{first_non_finite}
use Rattle.machine.specs.Machine.{index_tests, refusal, accepted, step_under, step, run}
use Rattle.exact.specs.Fractions.{Fraction, whole, Undefined, fractions}
use Rattle.exact.specs.Matrix.{matrix_of}
use Rattle.exact.specs.Runs.{exact_run, last_state, empty}
use Rattle.exact.specs.Factored.{Factored}
use Rattle.exact.specs.Examples.{singular, moves}
use Rattle.exact.proofs.Theorem.{factors_without_rounding}

abbrev calls : List (Call Fraction)
calls = moves ++ replace_column 0 (whole 1 ∷ whole 8 ∷ []) ∷ replace_row 0 (whole 1 ∷ whole 1 ∷ []) ∷ []

module _ (undefined : Undefined) where
  each_update : Factored undefined (last_state (empty undefined) (exact_run undefined (empty undefined) calls)) (matrix_of (fractions undefined) calls)
  unfolding run step step_under accepted refusal index_tests first_non_finite
  each_update = (factors_without_rounding undefined (empty undefined) calls refl).accepted_list (omega arith)

  singular_too : Factored undefined (last_state (empty undefined) (exact_run undefined (empty undefined) singular)) (matrix_of (fractions undefined) singular)
  unfolding run step step_under accepted refusal index_tests first_non_finite
  singular_too = (factors_without_rounding undefined (empty undefined) singular refl).accepted_list (omega arith)
