-- `copy`: one entry a turn.
use lib.Ieee.{binary64}
use Rattle.numbers.specs.NumberForm.{NumberForm, ieee}
use Rattle.machine.specs.Products.{entry}
use Rattle.ranges.specs.Written.{Written}
use Rattle.ranges.proofs.copy.Given as goal

abbrev N : NumberForm
N = ieee binary64

abbrev pub invariant-loop-k : goal.invariant-loop-k
invariant-loop-k l = Written N (λ j. j) l.k (entry N l.source) l.initial.target l.target
