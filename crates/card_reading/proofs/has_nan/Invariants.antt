-- `has_nan`: one word a turn.
use Rattle.std.proofs.Common.{◌≡◌, not}
use lib.Ieee.{binary64, nan_bits}
use Rattle.machine.specs.Readiness.{all_below}
use Rattle.card_format.specs.Blocks.{word_in}
use Rattle.card_reading.proofs.has_nan.Given as goal

abbrev pub invariant-loop-k : goal.invariant-loop-k
invariant-loop-k l = l.found ≡ not (all_below l.k (λ k. not (nan_bits binary64 (word_in l.card l.block k))))
