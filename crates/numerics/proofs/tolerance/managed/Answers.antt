-- `managed`: E is the library's constant, and both it and the definition's are told by their bits.
use lib.Ieee.{of_bits}
use Rattle.numbers.specs.Tolerances.{managed_epsilon}
use Rattle.numerics.proofs.tolerance.managed.Goals as goal

pub returns : goal.returns
unfolding of_bits managed_epsilon
returns c = c.with_epsilon.ensures
