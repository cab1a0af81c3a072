-- `copy`: one entry a turn.
use native.Mathlib.Omega.{arith}
use lib.Ieee.{binary64}
use Rattle.numbers.specs.NumberForm.{ieee}
use Rattle.ranges.proofs.Vectors.{written_whole}
use Rattle.ranges.proofs.copy.Goals as goal

pub returns : goal.returns
returns c = written_whole (ieee binary64) (omega arith) (omega arith) c.loop-k.invariant
