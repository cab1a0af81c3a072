-- `test_diagonal`: one diagonal a turn.
use mathlib.Core.Path.{◌≡◌}
use mathlib.Core.Option.{none}
use Prim.Native.Nat.{◌≤◌}
use lib.Ieee.{binary64}
use Rattle.numbers.specs.NumberForm.{ieee}
use Rattle.machine.specs.Solves.{diagonals}
use Rattle.matrices.specs.Tables.{table_u}
use Rattle.diagonals.proofs.test_diagonal.Given as goal

abbrev pub invariant-loop-i : goal.invariant-loop-i
invariant-loop-i l = (l.i ≤ l.u.n) × (diagonals (ieee binary64) (table_u l.u) l.i ≡ none)
