-- `dot`: one term a turn.
use mathlib.Core.Path.{◌≡◌}
use lib.ListN.{length}
use lib.Ieee.{binary64, mul}
use Rattle.numbers.specs.NumberForm.{NumberForm, ieee}
use Rattle.machine.specs.Products.{entry, sum}
use Rattle.ranges.proofs.dot.Given as goal

abbrev N : NumberForm
N = ieee binary64

abbrev pub invariant-loop-p : goal.invariant-loop-p
invariant-loop-p l = l.value ≡ sum N (length l.yielded) (λ k. mul binary64 (entry N l.a k) (entry N l.b k))
