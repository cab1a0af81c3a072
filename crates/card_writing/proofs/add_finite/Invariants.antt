-- `add_finite`: the values so far.
use lib.Ieee.{binary64, to_bits}
use Rattle.card_writing.proofs.Runs.{ValuesAdded}
use Rattle.card_writing.proofs.add_finite.Given as goal

abbrev pub invariant-loop-k : goal.invariant-loop-k
invariant-loop-k l = ValuesAdded (to_bits binary64) l.block l.word l.values l.k l.initial.card l.card l.sum
