-- `is_finite`: the laws of FromBits at binary64.
use mathlib.Core.Path.{sym, subst}
use lib.Dec.{T}
use lib.Ieee.{binary64}
use Rattle.numbers.proofs.FromBits.{is_number, finite_of_bits, nan_not_finite}
use Rattle.numerics.proofs.real.is_finite.Goals as goal

pub returns-then-x : goal.returns-then-x
returns-then-x c = nan_not_finite c.args.x c.if-x.true

pub float_to_bits-result : goal.float_to_bits-result
float_to_bits-result c = is_number c.args.x c.if-x.false

pub returns : goal.returns
returns c = finite_of_bits binary64 c.args.x (subst T (sym c.well_formed.0.1) tt)
