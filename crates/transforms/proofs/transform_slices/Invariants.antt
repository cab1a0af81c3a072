-- `transform_slices`: one pair a turn.
use lib.Ieee.{binary64}
use Rattle.numbers.specs.NumberForm.{NumberForm, ieee}
use Rattle.numbers.specs.PairStep.{first, second}
use Rattle.machine.specs.Products.{entry}
use Rattle.ranges.specs.Written.{Written}
use Rattle.transforms.proofs.transform_slices.Given as goal

abbrev N : NumberForm
N = ieee binary64

abbrev pub invariant-loop-k : goal.invariant-loop-k
invariant-loop-k l =
    let xs = l.initial.xs in
    let ys = l.initial.ys in
    Written N (λ k. k) l.k (λ k. first N l.transform.swap (entry N xs k) (entry N ys k)) xs l.xs
    × Written N (λ k. k) l.k (λ k. second N l.transform.swap l.transform.multiplier (entry N xs k) (entry N ys k)) ys l.ys
