-- `add_finite`: one more value a turn.
use mathlib.Core.Path.{◌≡◌}
use mathlib.Core.Bool.{true, not, false≢true}
use native.Mathlib.Omega.{arith}
use lib.Dec.{T}
use lib.Ieee.{Float, nan, inf, fin, is_nan, binary64, to_bits}
use lib.Ieee.Scale.{finite}
use lib.ListN.{length}
use Rattle.machine.proofs.Readiness.{holds_below}
use Rattle.card_writing.proofs.Runs.{none_added, value_added, all_added}
use Rattle.card_writing.proofs.add_finite.Goals as goal

-- a finite value is no NaN
finite_number : (x : Float) → finite x ≡ true → T (not (is_nan x))
unfolding is_nan
finite_number nan e = absurd (false≢true e)
finite_number (inf s) e = tt
finite_number (fin s m k) e = tt

pub float_to_bits-value : goal.float_to_bits-value
float_to_bits-value c = finite_number _ (holds_below (length c.args.values.now) _ c.requires.finite c.loop-k.k (omega arith))

pub loop-k-init : goal.loop-k-init
loop-k-init c = none_added (to_bits binary64) c.args.block c.args.word c.args.values.now c.args.card.now c.requires.sum

pub loop-k-preserved : goal.loop-k-preserved
loop-k-preserved c =
    let a = c.args in
    value_added (to_bits binary64) nan a.block a.word c.loop-k.k a.values.now (omega arith) c.loop-k.invariant c.add_word-sum.ensures.word c.add_word-sum.ensures.sum

pub returns : goal.returns
returns c =
    let a = c.args in
    let all = all_added (to_bits binary64) a.block a.word a.values.now (omega arith) c.loop-k.invariant in
    record { words = all.0; sum = all.1 }
