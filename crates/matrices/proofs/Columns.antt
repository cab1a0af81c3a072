-- A column that was read into the front of a vector.
use mathlib.Core.List.{List, ◌++◌}
use Prim.Native.Nat.{ℕ, ◌≤◌}
use native.Mathlib.Omega.{arith}
use lib.ListN.{length, take, drop}
use Rattle.numbers.specs.NumberForm.{NumberForm}
use Rattle.machine.specs.Tables.{Vector}
use Rattle.ranges.specs.Written.{Written}
use Rattle.ranges.proofs.Parts.{front_length, front_written}

module _ (N : NumberForm) where
  open N use {Value}

  -- what `read_column(column, &mut xs[..n])` leaves
  pub column_read : (n : ℕ) (xs ys : List Value) {f : Vector Value} → n ≤ length xs → Written N (λ k. k) (length (take n xs)) f (take n xs) ys
      → Written N (λ k. k) n f xs (ys ++ drop n xs)
  column_read n xs ys fits h =
      let long = front_length N n xs fits in
      front_written N n xs ys fits (omega (arith, long, h.kept.long)) (λ j l. h.value j (omega (arith, long)))
