-- `with_epsilon`: the definition's fraction is rounded, and the literal's bits read.
use mathlib.Core.Path.{refl}
use lib.Ieee.{of_bits}
use Rattle.numbers.specs.Tolerances.{update_tiny}
use Rattle.numerics.proofs.tolerance.Numerics.with_epsilon.Goals as goal

pub returns : goal.returns
unfolding of_bits update_tiny
returns c = (refl, refl)
