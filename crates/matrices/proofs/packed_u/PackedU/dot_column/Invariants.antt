-- `PackedU::dot_column`: one term a turn.
use mathlib.Core.Path.{◌≡◌}
use lib.Ieee.{binary64, mul}
use Rattle.numbers.specs.NumberForm.{NumberForm, ieee}
use Rattle.machine.specs.Products.{entry, sum}
use Rattle.matrices.specs.Tables.{table_u}
use Rattle.matrices.proofs.packed_u.PackedU.dot_column.Given as goal

abbrev N : NumberForm
N = ieee binary64

abbrev pub invariant-loop-i : goal.invariant-loop-i
invariant-loop-i l = l.sum ≡ sum N l.i (λ j. mul binary64 (table_u l.self j l.column) (entry N l.values j))
