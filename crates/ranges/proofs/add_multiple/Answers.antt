-- `add_multiple`: one entry a turn, of which the old value is still there.
use native.Mathlib.Omega.{arith}
use lib.Ieee.{binary64}
use Rattle.numbers.specs.NumberForm.{NumberForm, ieee}
use Rattle.ranges.proofs.Writing.{written_more, apart, unwritten}
use Rattle.ranges.proofs.add_multiple.Goals as goal

abbrev N : NumberForm
N = ieee binary64

pub loop-k-preserved : goal.loop-k-preserved
loop-k-preserved c =
    let loop = c.loop-k in
    written_more N (apart N _) loop.invariant (omega arith) (rw (unwritten N (apart N _) loop.invariant))
