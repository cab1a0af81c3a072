-- `put_zeros`: the zeros so far.
use lib.ListN.{replicate}
use Rattle.card_format.specs.WordsPut.{WordsPut}
use Rattle.card_writing.proofs.put_zeros.Given as goal

abbrev pub invariant-loop-k : goal.invariant-loop-k
invariant-loop-k l = WordsPut l.first (replicate l.k 0) l.initial.card l.card
