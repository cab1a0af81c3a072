-- `PackedU::read_column`: one entry a turn.
use lib.Ieee.{binary64}
use Rattle.numbers.specs.NumberForm.{ieee}
use Rattle.ranges.specs.Written.{Written}
use Rattle.matrices.specs.Tables.{table_u}
use Rattle.matrices.proofs.packed_u.PackedU.read_column.Given as goal

abbrev pub invariant-loop-i : goal.invariant-loop-i
invariant-loop-i l = Written (ieee binary64) (λ k. k) l.i (λ j. table_u l.self j l.column) l.initial.values l.values
