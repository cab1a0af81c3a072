-- The numbers that a C host passes, and the sizes that they stand for. Below stand computed lines at the ends of their range.
use Rattle.std.specs.Prelude.{◌≡◌, refl, Bool, true, false, if◌then◌else◌, Option, Some, None, ℕ, ◌-◌, ◌^◌, max, leb, ℤ, pos, negsuc}

-- a number as a size: 0 where it is negative
abbrev pub size_of : ℤ → ℕ
size_of (pos k) = k
size_of (negsuc k) = 0

-- Stride is the larger of maxmod and 1.
abbrev pub stride_of : ℤ → ℕ
stride_of maxmod = max (size_of maxmod) 1

-- k isn't 0 to n − 1
abbrev pub outside : ℤ → ℕ → Bool
outside (pos k) n = leb n k
outside (negsuc k) n = true

-- an index as a size: none where it isn't 0 to n − 1
abbrev pub index_of : ℤ → ℕ → Option ℕ
index_of k n = if outside k n then None else Some (size_of k)

-- i32::MIN is −2^31, i32::MAX is 2^31 − 1
pub record Ends : Type 0 where
  least_size : size_of (negsuc (2 ^ 31 - 1)) ≡ 0
  greatest_size : size_of (pos (2 ^ 31 - 1)) ≡ 2147483647
  least_stride : stride_of (negsuc (2 ^ 31 - 1)) ≡ 1
  zero_stride : stride_of (pos 0) ≡ 1
  greatest_stride : stride_of (pos (2 ^ 31 - 1)) ≡ 2147483647
  last_inside : outside (pos 2) 3 ≡ false
  first_past : outside (pos 3) 3 ≡ true
  minus_one : outside (negsuc 0) 3 ≡ true
  last_index : index_of (pos 2) 3 ≡ Some 2
  past_index : index_of (pos 3) 3 ≡ None
  negative_index : index_of (negsuc 0) 3 ≡ None

pub ends : Ends
ends = record {
  least_size = refl;
  greatest_size = refl;
  least_stride = refl;
  zero_stride = refl;
  greatest_stride = refl;
  last_inside = refl;
  first_past = refl;
  minus_one = refl;
  last_index = refl;
  past_index = refl;
  negative_index = refl;
}
