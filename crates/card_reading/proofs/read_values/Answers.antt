-- `read_values`: one run a turn.
use mathlib.Core.Path.{refl, ap, ◌∙◌}
use Prim.Native.Nat.{◌+◌}
use native.Mathlib.Nat.{add_assoc}
use native.Mathlib.Omega.{arith}
use Rattle.ranges.proofs.Vectors.{written_as}
use Rattle.card_reading.proofs.Runs.{N, value_of, in_one_block, part_tabulated, run_more, run_all}
use Rattle.card_reading.proofs.read_values.Goals as goal

pub loop-k-preserved : goal.loop-k-preserved
loop-k-preserved c =
    let card = c.args.card.now in
    let first = c.args.first in
    let k = c.loop-k.k in
    let run = c.min-run.result in
    run_more c.loop-k.invariant
    (written_as N _ (λ i h. in_one_block card (first + k) i (omega arith) ∙ ap (value_of card) (add_assoc first k i))
    (part_tabulated k (k + run) run refl (omega arith) c.read_run.ensures))

pub returns : goal.returns
returns c = run_all c.loop-k.invariant (omega arith)
