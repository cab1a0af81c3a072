-- `put_values`: the words of the values so far, and the running sum behind them.
use mathlib.Core.Path.{◌≡◌}
use Prim.Native.Nat.{◌+◌, ◌-◌, ◌≤◌}
use lib.Ieee.{binary64, to_bits}
use mathlib.Core.List.{map}
use lib.ListN.{length, take}
use Rattle.card_format.specs.WordsPut.{WordsFilled, sum_before}
use Rattle.card_writing.proofs.put_values.Given as goal

abbrev pub invariant-loop-k : goal.invariant-loop-k
invariant-loop-k l =
    (l.k ≤ length l.values)
    × WordsFilled l.first (map (to_bits binary64) (take l.k l.values)) l.initial.card l.card
    × (l.sum ≡ sum_before l.card (l.first + l.k))

abbrev pub decreases-loop-k : goal.decreases-loop-k
decreases-loop-k l = length l.values - l.k
