-- `read_values`: one run a turn.
use Prim.Native.Nat.{◌+◌, ◌-◌}
use lib.ListN.{length}
use Rattle.ranges.specs.Written.{Written}
use Rattle.card_reading.proofs.Runs.{N, value_of}
use Rattle.card_reading.proofs.read_values.Given as goal

abbrev pub invariant-loop-k : goal.invariant-loop-k
invariant-loop-k l = Written N (λ k. k) l.k (λ k. value_of l.card (l.first + k)) l.initial.values l.values

abbrev pub decreases-loop-k : goal.decreases-loop-k
decreases-loop-k l = length l.values - l.k
