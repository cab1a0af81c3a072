-- `add_multiple`: one entry a turn, of which the old value is still there.
use lib.Ieee.{binary64}
use Rattle.numbers.specs.NumberForm.{NumberForm, ieee}
use Rattle.ranges.specs.Written.{Written}
use Rattle.ranges.specs.Sums.{multiple_added}
use Rattle.ranges.proofs.add_multiple.Given as goal

abbrev N : NumberForm
N = ieee binary64

abbrev pub invariant-loop-k : goal.invariant-loop-k
invariant-loop-k l = Written N (λ j. j) l.k (multiple_added N l.initial.target l.source l.factor) l.initial.target l.target
