-- `put_zeros`: one more zero a turn.
use mathlib.Core.Path.{◌≡◌}
use native.Mathlib.Omega.{arith}
use Rattle.card_format.proofs.Put.{none_put}
use Rattle.card_writing.proofs.Runs.{zero_put}
use Rattle.card_writing.proofs.put_zeros.Goals as goal

pub loop-k-init : goal.loop-k-init
loop-k-init c = none_put c.args.first 0 c.args.card.now

pub loop-k-preserved : goal.loop-k-preserved
loop-k-preserved c = zero_put c.args.first c.loop-k.k c.loop-k.invariant c.put_numbered.ensures

pub returns : goal.returns
returns c =
    let e : c.loop-k.k ≡ c.args.count = omega arith in
    rw e at c.loop-k.invariant
