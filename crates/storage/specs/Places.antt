-- Storage records of capacity c: how long L and U are, and at which place of its buffer each entry stands. Below stand the bench table's rows on them.
use Rattle.std.specs.Prelude.{◌≡◌, refl, Bool, true, false, ◌||◌, ℕ, ◌+◌, ◌-◌, ◌*◌, ◌/◌, ◌^◌, ◌≤◌, ◌<◌, leb}

-- L needs c × (c + 1) doubles, U needs c × (c + 1) / 2
abbrev pub l_length : ℕ → ℕ
l_length c = c * (c + 1)

abbrev pub u_length : ℕ → ℕ
u_length c = c * (c + 1) / 2

-- c + 1 or c × (c + 1) exceeds usize, which has 64 bits
unfoldable pub overflows : ℕ → Bool
overflows c = leb (2 ^ 64) (c + 1) || leb (2 ^ 64) (l_length c)

-- L(i,j) is at i × c + j
abbrev pub l_index : ℕ → ℕ → ℕ → ℕ
l_index c i j = i * c + j

-- the last c doubles of L are solve work
abbrev pub work_index : ℕ → ℕ → ℕ
work_index c i = c * c + i

-- U(i,j), i ≤ j, is at i × c − i × (i − 1) / 2 + j − i
unfoldable pub u_index : ℕ → ℕ → ℕ → ℕ
u_index c i j = i * c - i * (i - 1) / 2 + j - i

-- the places of the entries that are active at dimension n, and of the solve work below n
abbrev pub LPlace : ℕ → ℕ → ℕ → Type 0
LPlace c n q = (i : ℕ) × (j : ℕ) × (i < n) × (j < n) × (q ≡ l_index c i j)

abbrev pub UPlace : ℕ → ℕ → ℕ → Type 0
UPlace c n q = (i : ℕ) × (j : ℕ) × (i ≤ j) × (j < n) × (q ≡ u_index c i j)

abbrev pub WorkPlace : ℕ → ℕ → ℕ → Type 0
WorkPlace c n q = (i : ℕ) × (i < n) × (q ≡ work_index c i)

-- ---- the bench table's rows on storage

pub record PlaceTable : Type 0 where
  lengths_0 : (l_length 0 ≡ 0) × (u_length 0 ≡ 0)
  lengths_1 : (l_length 1 ≡ 2) × (u_length 1 ≡ 1)
  lengths_4 : (l_length 4 ≡ 20) × (u_length 4 ≡ 10)
  longest : l_length 4294967295 ≡ 18446744069414584320
  longest_fits : overflows 4294967295 ≡ false
  one_more : overflows 4294967296 ≡ true
  -- no capacity is so large that the sum or the product comes back small
  largest : overflows (2 ^ 64 - 1) ≡ true
  U_1_1 : u_index 3 1 1 ≡ 3
  U_1_2 : u_index 3 1 2 ≡ 4
  U_2_2 : u_index 3 2 2 ≡ 5

pub place_table : PlaceTable
unfolding overflows u_index
place_table = record {
  lengths_0 = (refl, refl);
  lengths_1 = (refl, refl);
  lengths_4 = (refl, refl);
  longest = refl;
  longest_fits = refl;
  one_more = refl;
  largest = refl;
  U_1_1 = refl;
  U_1_2 = refl;
  U_2_2 = refl;
}
