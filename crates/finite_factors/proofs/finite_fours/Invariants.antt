-- `finite_fours`: the sum tells of the fours so far.
use mathlib.Core.Path.{◌≡◌}
use Prim.Native.Nat.{◌*◌, ◌/◌, ◌≤◌}
use lib.Ieee.{binary64}
use lib.Ieee.Scale.{finite}
use lib.ListN.{length}
use Rattle.numbers.specs.NumberForm.{ieee}
use Rattle.machine.specs.Products.{entry}
use Rattle.machine.specs.Readiness.{all_below}
use Rattle.finite_factors.specs.Differences.{zero_or_nan}
use Rattle.finite_factors.proofs.finite_fours.Given as goal

abbrev pub invariant-loop-four : goal.invariant-loop-four
invariant-loop-four l = record {
  within : l.four ≤ length l.values / 4;
  found : l.sum ≡ zero_or_nan (all_below (4 * l.four) (λ k. finite (entry (ieee binary64) l.values k)));
}
