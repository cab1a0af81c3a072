-- `add_values`: one more value a turn.
use native.Mathlib.Omega.{arith}
use lib.Ieee.{nan, binary64, to_bits}
use Rattle.card_writing.proofs.Runs.{none_added, value_added, all_added}
use Rattle.card_writing.proofs.add_values.Goals as goal

pub loop-k-init : goal.loop-k-init
loop-k-init c = none_added (to_bits binary64) c.args.block c.args.word c.args.values.now c.args.card.now c.requires.sum

pub loop-k-preserved : goal.loop-k-preserved
loop-k-preserved c =
    let a = c.args in
    value_added (to_bits binary64) nan a.block a.word c.loop-k.k a.values.now (omega arith) c.loop-k.invariant (rw c.f64_to_bits_with_nan.ensures at c.add_word-sum.ensures.word) c.add_word-sum.ensures.sum

pub returns : goal.returns
returns c =
    let a = c.args in
    let all = all_added (to_bits binary64) a.block a.word a.values.now (omega arith) c.loop-k.invariant in
    record { words = all.0; sum = all.1 }
