-- `clear_l_column`: one entry a turn.
use Prim.Native.Nat.{◌≤◌}
use lib.Ieee.{binary64}
use Rattle.numbers.specs.NumberForm.{ieee}
use Rattle.storage.specs.Places.{l_index}
use Rattle.factors.specs.PartsWritten.{LWritten}
use Rattle.factors.proofs.Factors.clear_l_column.Given as goal

abbrev pub invariant-loop-i : goal.invariant-loop-i
invariant-loop-i l = (l.i ≤ l.rows) × LWritten (λ j. l_index l.initial.self.stride j l.column) l.i (λ j. (ieee binary64).zero) l.initial.self l.self
