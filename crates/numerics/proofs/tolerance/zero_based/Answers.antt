-- `zero_based`: the definition's fraction is rounded, and the literal's bits read.
use lib.Ieee.{of_bits}
use Rattle.numbers.specs.Tolerances.{zero_based_epsilon}
use Rattle.numerics.proofs.tolerance.zero_based.Goals as goal

pub returns : goal.returns
unfolding of_bits zero_based_epsilon
returns c = c.with_epsilon.ensures
