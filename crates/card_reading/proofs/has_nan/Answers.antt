-- `has_nan`: one word a turn.
use mathlib.Core.Path.{refl}
use native.Mathlib.Numerals.{add-one}
use Rattle.std.proofs.Common.{rules}
use Rattle.machine.specs.Readiness.{all_below}
use Rattle.card_reading.proofs.Tests.{found_more}
use Rattle.card_reading.proofs.has_nan.Goals as goal

pub loop-k-init : goal.loop-k-init
unfolding all_below
loop-k-init c = refl

pub loop-k-preserved : goal.loop-k-preserved
unfolding all_below
loop-k-preserved c = rw add-one (search (rules, found_more))
