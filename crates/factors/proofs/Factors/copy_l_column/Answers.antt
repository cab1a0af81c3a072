-- `copy_l_column`: one entry a turn.
use mathlib.Core.Path.{◌≡◌}
use native.Mathlib.Omega.{arith}
use lib.Ieee.{binary64}
use Rattle.numbers.specs.NumberForm.{NumberForm, ieee}
use Rattle.ranges.proofs.Writing.{stored}
use Rattle.factors.proofs.ColumnPlaces.{row_unwritten, l_index_column_apart}
use Rattle.factors.proofs.Steps.{same_here}
use Rattle.factors.proofs.Factors.copy_l_column.Goals as goal

abbrev N : NumberForm
N = ieee binary64

pub loop-i-preserved : goal.loop-i-preserved
loop-i-preserved c =
    let done = c.loop-i.invariant.1 in
    let s = done.same_storage in
    let place = rw s.stride at c.l_index-in-loop-i.ensures.0 in
    let read = rw s.stride at c.l_index.ensures.0 in (
      omega arith,
      record {
        l = stored N (λ j. l_index_column_apart _ _ _ j (omega arith)) done.l place (omega arith) (rw read (row_unwritten N _ _ _ (omega arith) (omega arith) done.l));
        u = done.u;
        same_storage = same_here s.dimension s.stride s.l s.u;
      },
    )

pub returns : goal.returns
returns c = let e : c.loop-i.i ≡ c.args.self.now.n = omega arith in rw e at c.loop-i.invariant.1
