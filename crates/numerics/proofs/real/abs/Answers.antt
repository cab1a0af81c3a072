-- `abs`: the laws of FromBits at binary64.
use mathlib.Core.Path.{sym, subst}
use lib.Dec.{T}
use lib.Ieee.{binary64}
use Rattle.numbers.proofs.FromBits.{absolute_of_bits, absolute_bits_number, nan_absolute, is_number}
use Rattle.numerics.proofs.real.abs.Goals as goal

pub returns-then-x : goal.returns-then-x
returns-then-x c = nan_absolute c.args.x c.if-x.true

pub float_to_bits-result : goal.float_to_bits-result
float_to_bits-result c = is_number c.args.x c.if-x.false

pub float_from_bits-result : goal.float_from_bits-result
float_from_bits-result c =
    let x = c.args.x in
    absolute_bits_number binary64 x (subst T (sym c.well_formed.0.1) tt) (is_number x c.if-x.false)

pub returns : goal.returns
returns c = absolute_of_bits binary64 c.args.x (subst T (sym c.well_formed.0.1) tt)
