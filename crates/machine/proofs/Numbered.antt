-- Which numbers a refusal can have: the machine's are 5, 6, 7, 9, 10 and 23, so above 0. And the answer of an accepted call is 0.
use mathlib.Core.Path.{◌≡◌, refl, subst}
use mathlib.Core.Bool.{Bool, true, false, not, ◌&&◌, cond}
use mathlib.Core.List.{List, [], ◌∷◌}
use mathlib.Core.Option.{Option, none, some}
use Prim.Native.Nat.{ℕ, zero, suc, ◌<◌}
use native.Mathlib.Omega.{arith}
use lib.Dec.{leb, eqb}
use lib.ListN.{length}
use Rattle.numbers.specs.NumberForm.{NumberForm}
use Rattle.machine.specs.Tables.{Table, State}
use Rattle.machine.specs.Solves.{diagonals}
use Rattle.machine.specs.Calls.{Call, push, replace_row, replace_column, remove, solve, solve_transpose, Answer, refused, refused_at, number_of, ◌or_else◌, refuse_if}
use Rattle.machine.specs.LentData.{lent_data, first_non_finite}
use Rattle.machine.specs.Machine.{replacement_tests, remove_tests, rhs_test, index_tests, refusal, accepted}
use Rattle.machine.proofs.Refusals.{none_is_some}

-- P holds of the number of every refusal that o can be
abbrev pub Numbered : (ℕ → Type 0) → Option Answer → Type 0
Numbered P o = (r : Answer) → o ≡ some r → P (number_of r)

-- success is 0, so a refusal's number is above
abbrev pub AboveZero : ℕ → Type 0
AboveZero k = 0 < k

module _ (P : ℕ → Type 0) where
  none_numbered : Numbered P none
  none_numbered r e = absurd (none_is_some refl e)

  number_of_lem : (a : Answer) → P (number_of a) → Numbered P (some a)
  number_of_lem a h r e = let z : a ≡ r = cc in subst (λ (x : Answer). P (number_of x)) z h

  pub either_numbered : (o p : Option Answer) → Numbered P o → Numbered P p → Numbered P (o or_else p)
  either_numbered none p h k = k
  either_numbered (some a) p h k = h

  choice_numbered : (b : Bool) (o p : Option Answer) → Numbered P o → Numbered P p → Numbered P (cond b o p)
  choice_numbered true o p h k = h
  choice_numbered false o p h k = k

  -- a part that only some calls have
  pub when_numbered : (b : Bool) (o : Option Answer) → Numbered P o → Numbered P (cond b o none)
  when_numbered b o h = choice_numbered b o none h none_numbered

  answer_numbered : (b : Bool) (a : Answer) → P (number_of a) → Numbered P (cond b (some a) none)
  answer_numbered b a h = when_numbered b (some a) (number_of_lem a h)

  pub test_numbered : (b : Bool) (k : ℕ) → P k → Numbered P (refuse_if b k)
  test_numbered b k h = answer_numbered b (refused k) h

-- ---- the machine's refusals

-- Indices and lengths are refused with 5, 6 and 7, diagonals with 9 and 10: what holds of these holds of every number that is given there.
module _ (P : ℕ → Type 0) (five : P 5) (six : P 6) (seven : P 7) (nine : P 9) (ten : P 10) where
  replacement_numbered : (n index : ℕ) (outside : Answer) (values : ℕ) → P (number_of outside) → Numbered P (replacement_tests n index outside values)
  replacement_numbered n index outside values h = either_numbered P _ _ (answer_numbered P (leb n index) outside h) (test_numbered P (not (eqb values n)) 7 seven)

  remove_numbered : (n row column : ℕ) → Numbered P (remove_tests n row column)
  remove_numbered n row column = either_numbered P _ _ (test_numbered P (leb n row) 5 five) (test_numbered P (leb n column) 6 six)

  diagonal_numbered : (z f : Bool) (i : ℕ) → Numbered P (cond z (some (refused_at 9 i)) (cond f none (some (refused_at 10 i))))
  diagonal_numbered z f i =
      choice_numbered P z _ _ (number_of_lem P (refused_at 9 i) nine) (choice_numbered P f none _ (none_numbered P) (number_of_lem P (refused_at 10 i) ten))

  module _ (N : NumberForm) where
    open N use {Value, is_zero, is_finite}

    diagonals_numbered : (U : Table Value) (n : ℕ) → Numbered P (diagonals N U n)
    unfolding diagonals
    diagonals_numbered U zero = none_numbered P
    diagonals_numbered U (suc k) = either_numbered P _ _ (diagonals_numbered U k) (diagonal_numbered (is_zero (U k k)) (is_finite (U k k)) k)

    solve_numbered : (S : State Value) (b : List Value) → Numbered P (rhs_test S.n (length b) or_else diagonals N S.U S.n)
    solve_numbered S b = either_numbered P _ _ (test_numbered P (not (eqb (length b) S.n)) 7 seven) (diagonals_numbered S.U S.n)

    pub index_numbered : (S : State Value) (c : Call Value) → Numbered P (index_tests N S c)
    unfolding index_tests
    index_numbered S (push row column d) = test_numbered P (not (eqb (length row) S.n && eqb (length column) S.n)) 7 seven
    index_numbered S (replace_row r row) = replacement_numbered S.n r (refused 5) (length row) five
    index_numbered S (replace_column k column) = replacement_numbered S.n k (refused 6) (length column) six
    index_numbered S (remove r k) = remove_numbered S.n r k
    index_numbered S (solve b) = solve_numbered S b
    index_numbered S (solve_transpose b) = solve_numbered S b

-- and data with 23
module _ (P : ℕ → Type 0) (twenty-three : P 23) (N : NumberForm) where
  open N use {Value, is_finite}

  pub data_numbered : (k : ℕ) (xs : List Value) → Numbered P (first_non_finite N k xs)
  unfolding first_non_finite
  data_numbered k [] = none_numbered P
  data_numbered k (x ∷ xs) = choice_numbered P (is_finite x) _ _ (data_numbered (suc k) xs) (number_of_lem P (refused_at 23 k) twenty-three)

pub refusal_above_zero : (N : NumberForm) (S : State N.Value) (c : Call N.Value) → Numbered AboveZero (refusal N S c)
unfolding refusal
refusal_above_zero N S c =
    either_numbered AboveZero _ _ (index_numbered AboveZero (omega arith) (omega arith) (omega arith) (omega arith) (omega arith) N S c)
    (data_numbered AboveZero (omega arith) N 0 (lent_data c))

-- ---- an accepted call

pub accepted_is_0 : (N : NumberForm) (E T : N.Value) (S : State N.Value) (c : Call N.Value) → number_of (accepted N E T S c).answer ≡ 0
unfolding accepted
accepted_is_0 N E T S (push row column d) = refl
accepted_is_0 N E T S (replace_row r row) = refl
accepted_is_0 N E T S (replace_column k column) = refl
accepted_is_0 N E T S (remove r k) = refl
accepted_is_0 N E T S (solve b) = refl
accepted_is_0 N E T S (solve_transpose b) = refl
