-- What an outcome says of a refused call: the number is the first that holds, and everything stands as it was.
use mathlib.Core.Path.{◌≡◌, sym, subst}
use mathlib.Core.Bool.{Bool, not, ◌&&◌, cond}
use mathlib.Core.Option.{Option, none, some}
use Prim.Native.Nat.{ℕ, ◌<◌}
use native.Mathlib.Omega.{arith}
use lib.Dec.{ltb, eqb}
use lib.ListN.{length}
use Rattle.numbers.specs.NumberForm.{NumberForm}
use Rattle.machine.specs.Calls.{Call, Answer, number_of, ◌or_else◌, given, is_push, is_update}
use Rattle.machine.specs.LentData.{lent_data, data_test}
use Rattle.machine.specs.Machine.{index_tests, step_under}
use Rattle.machine.specs.Agreement.{Same}
use Rattle.machine.proofs.Numbered.{Numbered, AboveZero, either_numbered, when_numbered, test_numbered, index_numbered, data_numbered}
use Rattle.storage.specs.Places.{l_length, u_length, overflows}
use Rattle.managed.specs.declared.LentLengths.{LentLengths}
use Rattle.managed.specs.Instance.{Instance, lengths_of, view}
use Rattle.managed.specs.Refusals.{dimension_test, size_tests, storage_tests, workspace_tests, lent_tests, capacity_test, room_test, reached, refusal_at}
use Rattle.managed.specs.Outcome.{Report, result_of, Outcome}

-- ---- the numbers of refusals

-- Behind the tests of what a call lends come 4 to 10 and 23: what holds of these holds of every number that is given there.
module _ (P : ℕ → Type 0) (four : P 4) (five : P 5) (six : P 6) (seven : P 7) (eight : P 8) (nine : P 9) (ten : P 10) (twenty-three : P 23) (N : NumberForm) where
  open N use {Value}

  pub behind_numbered : (s : Instance Value) (c : Call Value)
      → Numbered P (cond (is_push c) (capacity_test s.n s.c) none or_else index_tests N (view N s) c or_else data_test N c or_else cond (is_update c) (room_test (reached s c) (length s.y)) none)
  behind_numbered s c =
      either_numbered P _ _ (when_numbered P (is_push c) _ (test_numbered P (eqb s.n s.c) 4 four))
      (either_numbered P _ _ (index_numbered P five six seven nine ten N (view N s) c)
      (either_numbered P _ _ (data_numbered P twenty-three N 0 (lent_data c))
      (when_numbered P (is_update c) _ (test_numbered P (ltb (length s.y) (reached s c)) 8 eight))))

-- What a call lends is refused with 1, 2, 3, 13 and 14: the same of these.
module _ (P : ℕ → Type 0) (one : P 1) (two : P 2) (three : P 3) (thirteen : P 13) (fourteen : P 14) where
  storage_tests_numbered : (n c l u : ℕ) → Numbered P (storage_tests n c l u)
  unfolding dimension_test size_tests
  storage_tests_numbered n c l u =
      either_numbered P _ _ (test_numbered P (ltb c n) 1 one)
      (either_numbered P _ _ (test_numbered P (overflows c) 2 two)
      (either_numbered P _ _ (test_numbered P (ltb l (l_length c)) 3 three) (test_numbered P (ltb u (u_length c)) 13 thirteen)))

  workspaces_numbered : (y z w : ℕ) → Numbered P (workspace_tests y z w)
  unfolding workspace_tests
  workspaces_numbered y z w = test_numbered P (not (eqb y z && eqb y w)) 14 fourteen

  pub lent_numbered : (update : Bool) (n c : ℕ) (lent : LentLengths) → Numbered P (lent_tests update n c lent)
  lent_numbered update n c lent =
      either_numbered P _ _ (storage_tests_numbered n c lent.l lent.u) (when_numbered P update _ (workspaces_numbered lent.y lent.z lent.w))

pub storage_numbered : (n c l u : ℕ) → Numbered AboveZero (storage_tests n c l u)
storage_numbered = storage_tests_numbered AboveZero (omega arith) (omega arith) (omega arith) (omega arith) (omega arith)

module _ (N : NumberForm) where
  open N use {Value}

  pub all_numbered : (s : Instance Value) (c : Call Value) → Numbered AboveZero (refusal_at N s c)
  unfolding refusal_at
  all_numbered s c =
      either_numbered AboveZero _ _ (lent_numbered AboveZero (omega arith) (omega arith) (omega arith) (omega arith) (omega arith) (is_update c) s.n s.c (lengths_of s))
      (behind_numbered AboveZero (omega arith) (omega arith) (omega arith) (omega arith) (omega arith) (omega arith) (omega arith) (omega arith) N s c)

-- ---- the outcome

module _ (N : NumberForm) (E T : N.Value) {c : Call N.Value} {s t : Instance N.Value} {r : Report N.Value} (o : Outcome N E T c s t r) where
  -- dimension, capacity, factors, right-hand side and workspaces
  pub refused_untouched : (a : Answer) → refusal_at N s c ≡ some a → (r.answer ≡ a) × (r.solved ≡ given c) × (t ≡ s)
  unfolding step_under
  refused_untouched a e =
      let h = subst (λ (p : Option Answer). Same (result_of r (view N t)) (step_under N E T p (view N s) c)) e o.result in
      (h.answer, h.solved, o.untouched a e)

  pub refused_number : (a : Answer) → refusal_at N s c ≡ some a → 0 < number_of r.answer
  refused_number a e = subst (λ (x : Answer). 0 < number_of x) (sym (refused_untouched a e).0) (all_numbered N s c a e)
