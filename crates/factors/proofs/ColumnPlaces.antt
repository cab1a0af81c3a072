-- The places of a column's entries.
use mathlib.Core.Path.{◌≡◌}
use mathlib.Core.List.{List}
use mathlib.Core.Logic.{◌≢◌}
use Prim.Native.Nat.{ℕ, ◌≤◌, ◌<◌}
use native.Mathlib.Omega.{arith}
use Rattle.numbers.specs.NumberForm.{NumberForm}
use Rattle.machine.specs.Tables.{Vector}
use Rattle.machine.specs.Products.{entry}
use Rattle.storage.specs.Places.{l_index, u_index}
use Rattle.storage.proofs.Places.{l_index_injective, u_index_injective}
use Rattle.ranges.specs.Written.{Written}

-- the entries of a column of L have places of their own
pub l_index_column_apart : (c column k j : ℕ) → column < c → j < k → l_index c j column ≢ l_index c k column
l_index_column_apart c column k j hc h e = omega (arith, (l_index_injective c j column k column hc hc e).0)

-- the entries of a column of U have places of their own
pub u_index_column_apart : (c column k j : ℕ) → column < c → k ≤ column → j < k → u_index c j column ≢ u_index c k column
u_index_column_apart c column k j hc hk h e = omega (arith, (u_index_injective c j column k column (omega arith) hc hk hc e).0)

module _ (N : NumberForm) where
  open N use {Value}

  -- row k of L has not been stored to while the rows above it were
  pub row_unwritten : (c source target : ℕ) {k : ℕ} {f : Vector Value} {old l : List Value} → source < c → target < c → Written N (λ i. l_index c i target) k f old l
      → entry N l (l_index c k source) ≡ entry N old (l_index c k source)
  row_unwritten c source target {k} hs ht done = done.kept.same _ (λ a. omega (arith, (l_index_injective c k source a.0 target hs ht a.2).0))
