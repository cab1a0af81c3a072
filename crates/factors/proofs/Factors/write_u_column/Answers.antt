-- `write_u_column`: one entry a turn.
use mathlib.Core.Path.{refl}
use native.Mathlib.Omega.{arith}
use lib.Ieee.{binary64}
use Rattle.numbers.specs.NumberForm.{NumberForm, ieee}
use Rattle.ranges.proofs.Writing.{stored}
use Rattle.factors.proofs.ColumnPlaces.{u_index_column_apart}
use Rattle.factors.proofs.Steps.{same_here}
use Rattle.factors.proofs.Factors.write_u_column.Goals as goal

abbrev N : NumberForm
N = ieee binary64

pub loop-i-preserved : goal.loop-i-preserved
loop-i-preserved c =
    let done = c.loop-i.invariant in
    let s = done.same_storage in
    let place = rw s.stride at c.u_index.ensures.0 in record {
      u = stored N (λ j. u_index_column_apart _ _ _ j (omega arith) (omega arith)) done.u place (omega arith) refl;
      l = done.l;
      same_storage = same_here s.dimension s.stride s.l s.u;
    }
