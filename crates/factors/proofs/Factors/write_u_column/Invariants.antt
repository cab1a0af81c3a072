-- `write_u_column`: one entry a turn.
use lib.Ieee.{binary64}
use Rattle.numbers.specs.NumberForm.{ieee}
use Rattle.machine.specs.Products.{entry}
use Rattle.storage.specs.Places.{u_index}
use Rattle.factors.specs.PartsWritten.{UWritten}
use Rattle.factors.proofs.Factors.write_u_column.Given as goal

abbrev pub invariant-loop-i : goal.invariant-loop-i
invariant-loop-i l = UWritten (λ j. u_index l.initial.self.stride j l.column) l.i (entry (ieee binary64) l.values) l.initial.self l.self
