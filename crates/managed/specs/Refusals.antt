-- The refusals of the managed calls, document 01's 1 to 10 and document 02's 13, 14 and 23, in their order. Below stand computed lines for that order, one for each
-- two conditions that follow one another and can hold at once.
use Rattle.std.specs.Prelude.{◌≡◌, refl, Bool, true, false, not, ◌&&◌, cond, List, [], ◌∷◌, ℕ, ◌+◌, ◌^◌, ltb, eqb, length, replicate, Float}
use Rattle.std.proofs.Math.Option.{Option, none, some}
use Rattle.std.specs.Float.{nan, inf, binary64}
use Rattle.std.specs.Float.Ieee.{eq, of_bits}
use Rattle.numbers.specs.NumberForm.{NumberForm, nearest, ieee, whole}
use Rattle.machine.specs.Calls.{Call, push, replace_row, replace_column, remove, solve, solve_transpose, Answer, refused, refused_at, ◌or_else◌, refuse_if, is_push, is_update}
use Rattle.machine.specs.Solves.{diagonals}
use Rattle.machine.specs.LentData.{first_non_finite, data_test}
use Rattle.machine.specs.Machine.{index_tests}
use Rattle.storage.specs.Places.{l_length, u_length, overflows, u_index}
use Rattle.managed.specs.declared.LentLengths.{LentLengths}
use Rattle.managed.specs.Instance.{Instance, lengths_of, view}

-- ---- the parts, by dimension, capacity and lengths. Indices and lengths of data (5, 6, 7), the diagonals (9, 10) and the data (23) are the plain machine's.

-- 1: n > c
unfoldable pub dimension_test : ℕ → ℕ → Option Answer
dimension_test n c = refuse_if (ltb c n) 1

-- 2: c + 1 or c × (c + 1) exceeds usize. 3: L too short. 13: U too short, tested right after L
unfoldable pub size_tests : ℕ → ℕ → ℕ → Option Answer
size_tests c l u = refuse_if (overflows c) 2 or_else refuse_if (ltb l (l_length c)) 3 or_else refuse_if (ltb u (u_length c)) 13

-- storage: 1, 2, 3, 13
abbrev pub storage_tests : ℕ → ℕ → ℕ → ℕ → Option Answer
storage_tests n c l u = dimension_test n c or_else size_tests c l u

-- 14: workspaces of unequal length
unfoldable pub workspace_tests : ℕ → ℕ → ℕ → Option Answer
workspace_tests y z w = refuse_if (not (eqb y z && eqb y w)) 14

-- Every managed call lends its storage and tests 1, 2, 3, 13 (storage), then, where it lends workspaces (all updates, no solve), 14 for them.
abbrev pub lent_tests : Bool → ℕ → ℕ → LentLengths → Option Answer
lent_tests update n c lent = storage_tests n c lent.l lent.u or_else cond update (workspace_tests lent.y lent.z lent.w) none

-- the lengths where no workspaces are lent
abbrev pub storage_alone : ℕ → ℕ → LentLengths
storage_alone l u = record { l = l; u = u; y = 0; z = 0; w = 0 }

-- 4: a push at n = c
abbrev pub capacity_test : ℕ → ℕ → Option Answer
capacity_test n c = refuse_if (eqb n c) 4

-- 8: workspaces shorter than the dimension m for which the update needs them
abbrev pub room_test : ℕ → ℕ → Option Answer
room_test m y = refuse_if (ltb y m) 8

-- ---- the order

-- what the call lends; 4; indices and lengths, with a solve's diagonals behind them; 23; 8. A part that a call does not have is `none`.
abbrev pub in_order : Option Answer → Option Answer → Option Answer → Option Answer → Option Answer → Option Answer
in_order lent capacity indices values room = lent or_else capacity or_else indices or_else values or_else room

-- of an update that needs workspace for the dimension m
abbrev pub update_tests : ℕ → ℕ → LentLengths → Option Answer → Option Answer → Option Answer → ℕ → Option Answer
update_tests n c lent capacity indices values m = in_order (lent_tests true n c lent) capacity indices values (room_test m lent.y)

-- of a solve, which is lent L and U alone
abbrev pub solve_tests : ℕ → ℕ → ℕ → ℕ → Option Answer → Option Answer
solve_tests n c l u indices = in_order (lent_tests false n c (storage_alone l u)) none indices none none

module _ {A : Type 0} where
  -- what the call c is lent, tested
  abbrev pub lends : Instance A → Call A → Option Answer
  lends s c = lent_tests (is_update c) s.n s.c (lengths_of s)

  -- the dimension for which an update needs workspace: n, and n + 1 for a push
  abbrev pub reached : Instance A → Call A → ℕ
  reached s c = s.n + cond (is_push c) 1 0

module _ (N : NumberForm) where
  open N use {Value}

  -- 4 is for a push; the plain machine's own are 7 for a push, 5, 7 for replace row, 6, 7 for replace column, 5, 6 for remove, and 7, 9, 10 for the solves,
  -- then 23 for the data of a push or a replacement; 8 is for an update.
  unfoldable pub refusal_at : Instance Value → Call Value → Option Answer
  refusal_at s c =
      in_order
      (lends s c)
      (cond (is_push c) (capacity_test s.n s.c) none)
      (index_tests N (view N s) c)
      (data_test N c)
      (cond (is_update c) (room_test (reached s c) (length s.y)) none)

-- ---- the order, computed

-- an instance by its dimension, its capacity and the lengths of L, U, y, z and w, every double being d
lent : Float → ℕ → ℕ → ℕ → ℕ → ℕ → ℕ → ℕ → Instance Float
lent d n c l u y z w = record {
  n = n;
  c = c;
  counter = 0;
  l = replicate l d;
  u = replicate u d;
  y = replicate y d;
  z = replicate z d;
  w = replicate w d;
}

-- dimension 1 at capacity 2 with all lengths right, workspaces of length 2
sound : Instance Float
unfolding lent
sound = lent (whole 1) 1 2 6 3 2 2 2

-- the same with workspaces that serve dimension 1 alone, and none
narrow : Instance Float
unfolding lent
narrow = lent (whole 1) 1 2 6 3 1 1 1

bare : Instance Float
unfolding lent
bare = lent (whole 1) 1 2 6 3 0 0 0

-- the same at capacity 1, all taken
full : Instance Float
unfolding lent
full = lent (whole 1) 1 1 2 1 2 2 2

refuses : Instance Float → Call Float → Option Answer
refuses = refusal_at (ieee binary64)

one : List Float
one = whole 1 ∷ []

-- a loose clamp
loose : List Float
loose = nan ∷ []

pub record RefusalOrder : Type 0 where
  -- adoption and ready: 1, 2, 3, 13
  storage_one_before_two : storage_tests (2 ^ 32 + 1) (2 ^ 32) 0 0 ≡ some (refused 1)
  storage_two_before_three : storage_tests 0 (2 ^ 32) 0 0 ≡ some (refused 2)
  storage_three_before_thirteen : storage_tests 1 2 5 2 ≡ some (refused 3)
  storage_thirteen : storage_tests 1 2 6 2 ≡ some (refused 13)
  storage_passed : storage_tests 1 2 6 3 ≡ none
  -- the six calls: 1, 2, 3, 13 and, for the workspaces, 14
  one_before_two : refuses (lent nan (2 ^ 32 + 1) (2 ^ 32) 0 0 0 0 0) (solve []) ≡ some (refused 1)
  two_before_three : refuses (lent nan 0 (2 ^ 32) 0 0 0 0 0) (solve []) ≡ some (refused 2)
  short_L : refuses (lent (whole 1) 1 2 5 3 2 2 2) (push one one (whole 1)) ≡ some (refused 3)
  three_before_thirteen : refuses (lent (whole 1) 1 2 5 2 2 2 2) (push one one (whole 1)) ≡ some (refused 3)
  short_U : refuses (lent (whole 1) 1 2 6 2 2 2 2) (push one one (whole 1)) ≡ some (refused 13)
  thirteen_before_fourteen : refuses (lent (whole 1) 1 2 6 2 2 1 2) (push one one (whole 1)) ≡ some (refused 13)
  unequal_z : refuses (lent (whole 1) 1 2 6 3 2 1 2) (push one one (whole 1)) ≡ some (refused 14)
  unequal_w : refuses (lent (whole 1) 1 2 6 3 2 2 3) (push one one (whole 1)) ≡ some (refused 14)
  -- push: 4, 7, 23, 8
  fourteen_before_four : refuses (lent (whole 1) 1 1 2 1 2 1 2) (push one one (whole 1)) ≡ some (refused 14)
  four_before_seven : refuses full (push [] one (whole 1)) ≡ some (refused 4)
  push_seven_before_eight : refuses narrow (push one [] (whole 1)) ≡ some (refused 7)
  push_seven_before_twenty_three : refuses sound (push loose [] nan) ≡ some (refused 7)
  push_twenty_three_before_eight : refuses narrow (push one loose nan) ≡ some (refused_at 23 1)
  push_four_before_twenty_three : refuses full (push loose loose nan) ≡ some (refused 4)
  push_diagonal : refuses sound (push one one (inf true)) ≡ some (refused_at 23 2)
  push_eight : refuses narrow (push one one (whole 1)) ≡ some (refused 8)
  push_accepted : refuses sound (push one one (whole 1)) ≡ none
  -- replace row: 5, 7, 23, 8
  row_thirteen_before_fourteen : refuses (lent (whole 1) 1 2 6 2 2 1 2) (replace_row 1 []) ≡ some (refused 13)
  row_fourteen_before_five : refuses (lent (whole 1) 1 2 6 3 2 1 2) (replace_row 1 []) ≡ some (refused 14)
  row_five_before_seven : refuses bare (replace_row 1 []) ≡ some (refused 5)
  row_seven_before_eight : refuses bare (replace_row 0 []) ≡ some (refused 7)
  row_seven_before_twenty_three : refuses narrow (replace_row 0 (nan ∷ loose)) ≡ some (refused 7)
  row_twenty_three_before_eight : refuses bare (replace_row 0 loose) ≡ some (refused_at 23 0)
  row_eight : refuses bare (replace_row 0 one) ≡ some (refused 8)
  row_accepted : refuses narrow (replace_row 0 one) ≡ none
  -- 4 is for a push alone
  row_at_capacity : refuses full (replace_row 0 one) ≡ none
  -- replace column: 6, 7, 23, 8
  column_thirteen_before_fourteen : refuses (lent (whole 1) 1 2 6 2 2 1 2) (replace_column 1 []) ≡ some (refused 13)
  column_fourteen_before_six : refuses (lent (whole 1) 1 2 6 3 2 1 2) (replace_column 1 []) ≡ some (refused 14)
  column_six_before_seven : refuses bare (replace_column 1 []) ≡ some (refused 6)
  column_seven_before_eight : refuses bare (replace_column 0 []) ≡ some (refused 7)
  column_seven_before_twenty_three : refuses narrow (replace_column 0 (nan ∷ loose)) ≡ some (refused 7)
  column_twenty_three_before_eight : refuses bare (replace_column 0 loose) ≡ some (refused_at 23 0)
  column_eight : refuses bare (replace_column 0 one) ≡ some (refused 8)
  column_accepted : refuses narrow (replace_column 0 one) ≡ none
  -- remove: 5, 6, 8
  remove_thirteen_before_fourteen : refuses (lent (whole 1) 1 2 6 2 2 1 2) (remove 1 1) ≡ some (refused 13)
  remove_fourteen_before_five : refuses (lent (whole 1) 1 2 6 3 2 1 2) (remove 1 1) ≡ some (refused 14)
  remove_five_before_six : refuses bare (remove 1 1) ≡ some (refused 5)
  remove_six_before_eight : refuses bare (remove 0 1) ≡ some (refused 6)
  remove_eight : refuses bare (remove 0 0) ≡ some (refused 8)
  remove_accepted : refuses narrow (remove 0 0) ≡ none
  -- infinities and NaNs are ordinary in the factors: 23 is for lent data
  factors_of_nan : refuses (lent nan 1 2 6 3 2 2 2) (push one one (whole 1)) ≡ none
  row_on_nan : refuses (lent nan 1 2 6 3 2 2 2) (replace_row 0 one) ≡ none
  column_on_nan : refuses (lent nan 1 2 6 3 2 2 2) (replace_column 0 one) ≡ none
  remove_on_nan : refuses (lent nan 1 2 6 3 2 2 2) (remove 0 0) ≡ none
  -- solves: 7, then the diagonal; they lend no workspaces
  solve_three_before_thirteen : refuses (lent (whole 1) 1 2 5 2 0 0 0) (solve []) ≡ some (refused 3)
  solve_three_before_seven : refuses (lent (whole 1) 1 2 5 3 0 0 0) (solve []) ≡ some (refused 3)
  solve_thirteen_before_seven : refuses (lent (whole 1) 1 2 6 2 0 0 0) (solve []) ≡ some (refused 13)
  solve_seven_before_nine : refuses (lent (whole 0) 1 2 6 3 0 0 0) (solve []) ≡ some (refused 7)
  solve_nine : refuses (lent (whole 0) 1 2 6 3 0 0 0) (solve one) ≡ some (refused_at 9 0)
  transpose_three_before_thirteen : refuses (lent (whole 1) 1 2 5 2 0 0 0) (solve_transpose []) ≡ some (refused 3)
  transpose_three_before_seven : refuses (lent (whole 1) 1 2 5 3 0 0 0) (solve_transpose []) ≡ some (refused 3)
  transpose_thirteen_before_seven : refuses (lent (whole 1) 1 2 6 2 0 0 0) (solve_transpose []) ≡ some (refused 13)
  transpose_seven_before_ten : refuses (lent nan 1 2 6 3 0 0 0) (solve_transpose []) ≡ some (refused 7)
  transpose_ten : refuses (lent nan 1 2 6 3 0 0 0) (solve_transpose one) ≡ some (refused_at 10 0)
  -- right-hand sides still take every double
  solve_any : refuses (lent (whole 1) 1 2 6 3 0 0 0) (solve loose) ≡ none
  transpose_any : refuses (lent (whole 1) 1 2 6 3 0 0 0) (solve_transpose loose) ≡ none
  -- 14 is for an update alone
  solve_accepted : refuses (lent (whole 1) 1 2 6 3 0 1 2) (solve one) ≡ none
  transpose_accepted : refuses (lent (whole 1) 1 2 6 3 0 1 2) (solve_transpose one) ≡ none

pub refusal_order : RefusalOrder
unfolding refuses refusal_at dimension_test size_tests workspace_tests index_tests first_non_finite diagonals overflows u_index lent sound narrow bare full one loose nearest eq of_bits
refusal_order = record {
  storage_one_before_two = refl;
  storage_two_before_three = refl;
  storage_three_before_thirteen = refl;
  storage_thirteen = refl;
  storage_passed = refl;
  one_before_two = refl;
  two_before_three = refl;
  short_L = refl;
  three_before_thirteen = refl;
  short_U = refl;
  thirteen_before_fourteen = refl;
  unequal_z = refl;
  unequal_w = refl;
  fourteen_before_four = refl;
  four_before_seven = refl;
  push_seven_before_eight = refl;
  push_seven_before_twenty_three = refl;
  push_twenty_three_before_eight = refl;
  push_four_before_twenty_three = refl;
  push_diagonal = refl;
  push_eight = refl;
  push_accepted = refl;
  row_thirteen_before_fourteen = refl;
  row_fourteen_before_five = refl;
  row_five_before_seven = refl;
  row_seven_before_eight = refl;
  row_seven_before_twenty_three = refl;
  row_twenty_three_before_eight = refl;
  row_eight = refl;
  row_accepted = refl;
  row_at_capacity = refl;
  column_thirteen_before_fourteen = refl;
  column_fourteen_before_six = refl;
  column_six_before_seven = refl;
  column_seven_before_eight = refl;
  column_seven_before_twenty_three = refl;
  column_twenty_three_before_eight = refl;
  column_eight = refl;
  column_accepted = refl;
  remove_thirteen_before_fourteen = refl;
  remove_fourteen_before_five = refl;
  remove_five_before_six = refl;
  remove_six_before_eight = refl;
  remove_eight = refl;
  remove_accepted = refl;
  factors_of_nan = refl;
  row_on_nan = refl;
  column_on_nan = refl;
  remove_on_nan = refl;
  solve_three_before_thirteen = refl;
  solve_three_before_seven = refl;
  solve_thirteen_before_seven = refl;
  solve_seven_before_nine = refl;
  solve_nine = refl;
  transpose_three_before_thirteen = refl;
  transpose_three_before_seven = refl;
  transpose_thirteen_before_seven = refl;
  transpose_seven_before_ten = refl;
  transpose_ten = refl;
  solve_any = refl;
  transpose_any = refl;
  solve_accepted = refl;
  transpose_accepted = refl;
}
