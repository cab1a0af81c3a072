-- A column or a row that was written from a part of a vector.
use mathlib.Core.List.{List}
use Prim.Native.Nat.{ℕ, ◌+◌, ◌-◌, ◌≤◌}
use native.Mathlib.Omega.{arith}
use lib.ListN.{length, take}
use Rattle.numbers.specs.NumberForm.{NumberForm}
use Rattle.machine.specs.Products.{entry}
use Rattle.ranges.specs.Written.{Written}
use Rattle.ranges.proofs.Parts.{part, part_long, part_entry, front_length, front_entry}
use Rattle.ranges.proofs.Vectors.{written_as}

module _ (N : NumberForm) where
  open N use {Value}

  -- what is written from `&xs[..n]`, told by xs
  pub written_from : (n : ℕ) (xs : List Value) {place : ℕ → ℕ} {a b : List Value} → n ≤ length xs → Written N place (length (take n xs)) (entry N (take n xs)) a b
      → Written N place n (entry N xs) a b
  written_from n xs fits h = written_as N (entry N (take n xs)) (λ k l. front_entry N n xs k l fits) (rw (front_length N n xs fits) at h)

  -- and from `&xs[start..stop]`
  pub written_from_part : (start stop : ℕ) (xs : List Value) {place : ℕ → ℕ} {a b : List Value} → start ≤ stop → stop ≤ length xs
      → Written N place (length (part N start stop xs)) (entry N (part N start stop xs)) a b → Written N place (stop - start) (λ k. entry N xs (start + k)) a b
  written_from_part start stop xs ordered fits h =
      let long = part_long N start stop xs ordered fits in
      written_as N (entry N (part N start stop xs)) (λ k l. part_entry N start stop xs k fits (omega (arith, long))) (rw long at h)
