-- What a value less itself is: +0 where it is finite, and NaN where it is not. A sum of such differences is +0 where all values are finite, and NaN otherwise.
use Rattle.std.specs.Prelude.{Bool, cond, Float}
use Rattle.std.specs.Float.{nan, float_zero}

abbrev pub zero_or_nan : Bool → Float
zero_or_nan finite = cond finite float_zero nan
