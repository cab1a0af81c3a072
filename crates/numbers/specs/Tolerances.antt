-- The tolerances E and T of both interfaces. Each constant is the value of its format nearest to a fraction.
use Rattle.std.specs.Prelude.{◌^◌, Float}
use Rattle.std.specs.Float.{Format, binary32, binary64}
use Rattle.std.specs.Float.Ieee.{mul}
use Rattle.numbers.specs.NumberForm.{nearest}

-- E of the managed interface: 2^-52, and 2^-23 in single precision
unfoldable pub managed_epsilon : Format → Float
unfolding nearest
managed_epsilon binary32 = nearest binary32 1 (2 ^ 23)
managed_epsilon binary64 = nearest binary64 1 (2 ^ 52)

-- E of the zero-based interface: the double nearest 2.22e-16
unfoldable pub zero_based_epsilon : Float
unfolding nearest
zero_based_epsilon = nearest binary64 222 (10 ^ 18)

-- the value nearest 0.0001
unfoldable pub update_tiny : Format → Float
unfolding nearest
update_tiny f = nearest f 1 10000

-- T is E times the value nearest 0.0001
abbrev pub tiny_of : Format → Float → Float → Float
tiny_of f epsilon tiny = mul f epsilon tiny

abbrev pub managed_tiny : Format → Float
managed_tiny f = tiny_of f (managed_epsilon f) (update_tiny f)

abbrev pub zero_based_tiny : Float
zero_based_tiny = tiny_of binary64 zero_based_epsilon (update_tiny binary64)
