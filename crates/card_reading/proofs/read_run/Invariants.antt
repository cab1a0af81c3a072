-- `read_run`: one value a turn.
use Prim.Native.Nat.{◌+◌}
use Rattle.ranges.specs.Written.{Written}
use Rattle.card_reading.proofs.Runs.{N, value_in}
use Rattle.card_reading.proofs.read_run.Given as goal

abbrev pub invariant-loop-k : goal.invariant-loop-k
invariant-loop-k l = Written N (λ k. k) l.k (λ k. value_in l.card l.block (l.word + k)) l.initial.values l.values
