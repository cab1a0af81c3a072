-- Refusals 11 and 12 of the zero-based calls, in document 01's order. Below stand computed lines, one for each condition and for each that comes before another.
use Rattle.std.specs.Prelude.{◌≡◌, refl, Bool, ◌||◌, ◌&&◌, ℕ, ◌*◌, ltb, eqb, ℤ, pos, negsuc}
use Rattle.std.proofs.Math.Option.{Option}
use Rattle.machine.specs.Calls.{Answer, ◌or_else◌, refusal_number, refuse_if}
use Rattle.storage.specs.Places.{u_length}
use Rattle.host_numbers.specs.Numbers.{size_of, stride_of, outside}

-- `mode`, a size, is one of two modes and the index that they use isn't 0 to n − 1
abbrev pub index_outside : ℕ → ℕ → ℤ → ℕ → Bool
index_outside mode one k n = (eqb mode one || eqb mode 4) && outside k n

-- n ≤ 0, mode isn't 1 to 4, krow (modes 3, 4) or kcol (modes 2, 4) isn't 0 to n − 1; mode and n as sizes, so that a negative one is 0
unfoldable pub passed_over : ℕ → ℕ → ℤ → ℤ → Bool
passed_over mode n krow kcol = eqb n 0 || (ltb mode 1 || (ltb 4 mode || (index_outside mode 3 krow n || index_outside mode 2 kcol n)))

-- n > stride, L is shorter than stride², U than stride × (stride + 1) / 2, or a vector than n; the arguments are n, the stride and the lengths
unfoldable pub update_lacks_room : ℕ → ℕ → ℕ → ℕ → ℕ → ℕ → ℕ → Bool
update_lacks_room n c l u y z w = ltb c n || (ltb l (c * c) || (ltb u (u_length c) || (ltb y n || (ltb z n || ltb w n))))

unfoldable pub product_lacks_room : ℕ → ℕ → ℕ → ℕ → ℕ → Bool
product_lacks_room n c l y z = ltb c n || (ltb l (c * c) || (ltb y n || ltb z n))

unfoldable pub solve_lacks_room : ℕ → ℕ → ℕ → ℕ → Bool
solve_lacks_room n c u y = ltb c n || (ltb u (u_length c) || ltb y n)

-- `LUmod` gives 11, then 12.
abbrev pub update_refusal : ℤ → ℤ → ℤ → ℤ → ℤ → ℕ → ℕ → ℕ → ℕ → ℕ → Option Answer
update_refusal mode maxmod n krow kcol l u y z w =
    refuse_if (passed_over (size_of mode) (size_of n) krow kcol) 11 or_else refuse_if (update_lacks_room (size_of n) (stride_of maxmod) l u y z w) 12

-- `Lprod` and `Usolve` give 11 at n ≤ 0, then 12 for n > stride or a short slice among those they use.
abbrev pub product_refusal : ℤ → ℤ → ℕ → ℕ → ℕ → Option Answer
product_refusal maxmod n l y z = refuse_if (eqb (size_of n) 0) 11 or_else refuse_if (product_lacks_room (size_of n) (stride_of maxmod) l y z) 12

abbrev pub solve_refusal : ℤ → ℤ → ℕ → ℕ → Option Answer
solve_refusal maxmod n u y = refuse_if (eqb (size_of n) 0) 11 or_else refuse_if (solve_lacks_room (size_of n) (stride_of maxmod) u y) 12

-- ---- the conditions and their order, computed at maxmod 4 and n 3, where lengths 16, 10, 3, 3, 3 are enough

update : ℤ → ℤ → ℤ → ℤ → ℕ
unfolding passed_over update_lacks_room
update mode n krow kcol = refusal_number (update_refusal mode (pos 4) n krow kcol 16 10 3 3 3)

-- with nothing lent
bare : ℤ → ℤ → ℤ → ℤ → ℕ
unfolding passed_over update_lacks_room
bare mode n krow kcol = refusal_number (update_refusal mode (pos 4) n krow kcol 0 0 0 0 0)

lends : ℕ → ℕ → ℕ → ℕ → ℕ → ℕ
unfolding passed_over update_lacks_room
lends l u y z w = refusal_number (update_refusal (pos 4) (pos 4) (pos 3) (pos 2) (pos 2) l u y z w)

pub record ZeroBasedOrder : Type 0 where
  push_accepted : update (pos 1) (pos 3) (negsuc 0) (pos 9) ≡ 0
  column_accepted : update (pos 2) (pos 3) (negsuc 0) (pos 2) ≡ 0
  row_accepted : update (pos 3) (pos 3) (pos 2) (pos 3) ≡ 0
  remove_accepted : update (pos 4) (pos 3) (pos 0) (pos 2) ≡ 0
  no_dimension : update (pos 1) (pos 0) (pos 0) (pos 0) ≡ 11
  negative_dimension : update (pos 1) (negsuc 2) (pos 0) (pos 0) ≡ 11
  mode_0 : update (pos 0) (pos 3) (pos 0) (pos 0) ≡ 11
  mode_5 : update (pos 5) (pos 3) (pos 0) (pos 0) ≡ 11
  negative_mode : update (negsuc 0) (pos 3) (pos 0) (pos 0) ≡ 11
  column_past : update (pos 2) (pos 3) (pos 0) (pos 3) ≡ 11
  column_negative : update (pos 2) (pos 3) (pos 0) (negsuc 0) ≡ 11
  row_past : update (pos 3) (pos 3) (pos 3) (pos 0) ≡ 11
  row_negative : update (pos 3) (pos 3) (negsuc 5) (pos 0) ≡ 11
  remove_row : update (pos 4) (pos 3) (pos 3) (pos 0) ≡ 11
  remove_column : update (pos 4) (pos 3) (pos 0) (pos 3) ≡ 11
  dimension_large : update (pos 1) (pos 5) (pos 0) (pos 0) ≡ 12
  mode_first : bare (pos 5) (pos 5) (pos 0) (pos 0) ≡ 11
  row_first : bare (pos 3) (pos 5) (pos 5) (pos 0) ≡ 11
  column_first : bare (pos 4) (pos 5) (pos 0) (pos 5) ≡ 11
  enough : lends 16 10 3 3 3 ≡ 0
  short_l : lends 15 10 3 3 3 ≡ 12
  short_u : lends 16 9 3 3 3 ≡ 12
  short_y : lends 16 10 2 3 3 ≡ 12
  short_z : lends 16 10 3 2 3 ≡ 12
  short_w : lends 16 10 3 3 2 ≡ 12
  product_accepted : refusal_number (product_refusal (pos 4) (pos 3) 16 3 3) ≡ 0
  product_empty_first : refusal_number (product_refusal (pos 4) (pos 0) 0 0 0) ≡ 11
  product_large : refusal_number (product_refusal (pos 2) (pos 3) 16 3 3) ≡ 12
  product_short_l : refusal_number (product_refusal (pos 4) (pos 3) 15 3 3) ≡ 12
  product_short_y : refusal_number (product_refusal (pos 4) (pos 3) 16 2 3) ≡ 12
  product_short_z : refusal_number (product_refusal (pos 4) (pos 3) 16 3 2) ≡ 12
  solve_accepted : refusal_number (solve_refusal (pos 4) (pos 3) 10 3) ≡ 0
  solve_stride_1 : refusal_number (solve_refusal (negsuc 6) (pos 1) 1 1) ≡ 0
  solve_negative_first : refusal_number (solve_refusal (pos 4) (negsuc 0) 0 0) ≡ 11
  solve_large : refusal_number (solve_refusal (negsuc 6) (pos 2) 9 9) ≡ 12
  solve_short_u : refusal_number (solve_refusal (pos 4) (pos 3) 9 3) ≡ 12
  solve_short_y : refusal_number (solve_refusal (pos 4) (pos 3) 10 2) ≡ 12

pub zero_based_order : ZeroBasedOrder
unfolding update bare lends passed_over update_lacks_room product_lacks_room solve_lacks_room
zero_based_order = record {
  push_accepted = refl;
  column_accepted = refl;
  row_accepted = refl;
  remove_accepted = refl;
  no_dimension = refl;
  negative_dimension = refl;
  mode_0 = refl;
  mode_5 = refl;
  negative_mode = refl;
  column_past = refl;
  column_negative = refl;
  row_past = refl;
  row_negative = refl;
  remove_row = refl;
  remove_column = refl;
  dimension_large = refl;
  mode_first = refl;
  row_first = refl;
  column_first = refl;
  enough = refl;
  short_l = refl;
  short_u = refl;
  short_y = refl;
  short_z = refl;
  short_w = refl;
  product_accepted = refl;
  product_empty_first = refl;
  product_large = refl;
  product_short_l = refl;
  product_short_y = refl;
  product_short_z = refl;
  solve_accepted = refl;
  solve_stride_1 = refl;
  solve_negative_first = refl;
  solve_large = refl;
  solve_short_u = refl;
  solve_short_y = refl;
}
