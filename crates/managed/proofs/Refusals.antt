-- What holds where tests pass; an instance that has room refuses just what the plain machine refuses; and what an instance has that doesn't refuse a call.
use mathlib.Core.Path.{◌≡◌, refl, sym, ◌∙◌}
use mathlib.Core.Bool.{Bool, true, false, cond, true≢false}
use mathlib.Core.Option.{Option, none}
use Prim.Native.Nat.{ℕ, ◌+◌, ◌^◌, ◌≤◌, ◌<◌}
use native.Mathlib.Decide.{dec_lt}
use native.Mathlib.Omega.{arith}
use lib.Dec.{T as So, ltb, eqb, ltb→lt, eqb→eq, nltb→le}
use lib.ListN.{length}
use Rattle.numbers.specs.NumberForm.{NumberForm}
use Rattle.machine.specs.Calls.{Call, Answer, ◌or_else◌, refuse_if, is_push, is_update}
use Rattle.machine.specs.LentData.{data_test}
use Rattle.machine.specs.Machine.{index_tests, refusal}
use Rattle.machine.proofs.Choice.{is_false, neqb→ne}
use Rattle.machine.proofs.Refusals.{or_else_none, or_else_last, refuse_if_none, refuse_if_false, equations_hold}
use Rattle.storage.specs.Places.{l_length, u_length, overflows}
use Rattle.storage.proofs.Lengths.{overflows_from}
use Rattle.managed.specs.declared.LentLengths.{LentLengths}
use Rattle.managed.specs.Instance.{Instance, view}
use Rattle.managed.specs.Refusals.{dimension_test, size_tests, storage_tests, workspace_tests, lent_tests, capacity_test, room_test, in_order, lends, reached, refusal_at}

-- ---- the parts

-- a dimension, a capacity and lengths that pass 1, 2, 3 and 13
pub record StoragePassed (n c l u : ℕ) : Type 0 where
  pub dimension : n ≤ c
  pub size : overflows c ≡ false
  pub capacity : c < 2 ^ 32
  pub L : l_length c ≤ l
  pub U : u_length c ≤ u

pub storage_passed : (n c l u : ℕ) → storage_tests n c l u ≡ none → StoragePassed n c l u
unfolding dimension_test size_tests
storage_passed n c l u h =
    let one = or_else_none (refuse_if (ltb c n) 1) _ h in
    let two = or_else_none (refuse_if (overflows c) 2) _ one.1 in
    let three = or_else_none (refuse_if (ltb l (l_length c)) 3) _ two.1 in
    let size = is_false (overflows c) (refuse_if_none (overflows c) 2 two.0) in
    record {
      dimension = nltb→le c n (refuse_if_none (ltb c n) 1 one.0);
      size = size;
      capacity = within_usize (dec_lt c (2 ^ 32)) size;
      L = nltb→le l (l_length c) (refuse_if_none (ltb l (l_length c)) 3 three.0);
      U = nltb→le u (u_length c) (refuse_if_none (ltb u (u_length c)) 13 three.1);
    }
  where
    within_usize : Dec (c < 2 ^ 32) → overflows c ≡ false → c < 2 ^ 32
    within_usize (yes b) k = b
    within_usize (no b) k = absurd (true≢false (sym (overflows_from c (omega (arith, b))) ∙ k))

-- ---- all parts

pub record OrderPassed (lent capacity indices values room : Option Answer) : Type 0 where
  pub is_lent : lent ≡ none
  pub has_capacity : capacity ≡ none
  pub has_indices : indices ≡ none
  pub has_values : values ≡ none
  pub has_room : room ≡ none

pub order_passed : {lent capacity indices values room : Option Answer} → in_order lent capacity indices values room ≡ none → OrderPassed lent capacity indices values room
order_passed {lent} {capacity} {indices} {values} {room} e =
    let first = or_else_none lent _ e in
    let second = or_else_none capacity _ first.1 in
    let third = or_else_none indices _ second.1 in
    let fourth = or_else_none values room third.1 in
    record { is_lent = first.0; has_capacity = second.0; has_indices = third.0; has_values = fourth.0; has_room = fourth.1 }

-- an update's storage at this dimension, and its workspaces for m
pub record UpdatePassed (n c : ℕ) (lent : LentLengths) (m : ℕ) : Type 0 where
  pub storage : StoragePassed n c lent.l lent.u
  pub y : m ≤ lent.y
  pub z : m ≤ lent.z
  pub w : m ≤ lent.w

pub update_passed : (n c : ℕ) (lent : LentLengths) (m : ℕ) → lent_tests true n c lent ≡ none → room_test m lent.y ≡ none → UpdatePassed n c lent m
unfolding workspace_tests
update_passed n c lent m e f =
    let first = or_else_none (storage_tests n c lent.l lent.u) _ e in
    let same = equations_hold lent.y lent.z lent.y lent.w 14 first.1 in
    let long = nltb→le lent.y m (refuse_if_none (ltb lent.y m) 8 f) in
    record { storage = storage_passed n c lent.l lent.u first.0; y = long; z = omega (arith, same.0); w = omega (arith, same.1) }

pub capacity_passed : (n c : ℕ) → n ≤ c → capacity_test n c ≡ none → n < c
capacity_passed n c h e = omega (arith, neqb→ne n c (refuse_if_none (eqb n c) 4 e))

-- ---- an instance

module _ (N : NumberForm) (s : Instance N.Value) (c : Call N.Value) where
  -- With room for the pushes, an instance whose storage passes refuses just what the plain machine refuses: 4 and 8 don't occur.
  pub refusals_with_room : lends s c ≡ none → reached s c ≤ s.c → (So (is_update c) → reached s c ≤ length s.y) → refusal_at N s c ≡ refusal N (view N s) c
  unfolding refusal_at refusal
  refusals_with_room lent capacity workspace =
      rw (lent, no_4 (is_push c) capacity) (λ t. index_tests N (view N s) c or_else or_else_last (data_test N c) _ (no_8 (is_update c) workspace) t)
    where
      no_4 : (b : Bool) → s.n + cond b 1 0 ≤ s.c → cond b (capacity_test s.n s.c) none ≡ none
      no_4 true h = refuse_if_false (eqb s.n s.c) 4 (λ t. omega (arith, eqb→eq s.n s.c t))
      no_4 false h = refl

      no_8 : (b : Bool) → (So b → reached s c ≤ length s.y) → cond b (room_test (reached s c) (length s.y)) none ≡ none
      no_8 true h = let g = h tt in refuse_if_false (ltb (length s.y) (reached s c)) 8 (λ t. omega (arith, ltb→lt (length s.y) (reached s c) t, g))
      no_8 false h = refl

  module _ (e : refusal_at N s c ≡ none) where
    pub passed : OrderPassed (lends s c) (cond (is_push c) (capacity_test s.n s.c) none) (index_tests N (view N s) c) (data_test N c) (cond (is_update c) (room_test (reached s c) (length s.y)) none)
    unfolding refusal_at
    passed = order_passed e

    pub accepted_storage : StoragePassed s.n s.c (length s.l) (length s.u)
    accepted_storage = storage_passed s.n s.c (length s.l) (length s.u) (or_else_none _ _ passed.is_lent).0

    pub reached_within : reached s c ≤ s.c
    reached_within = go (is_push c) accepted_storage.dimension passed.has_capacity
      where
        go : (p : Bool) → s.n ≤ s.c → cond p (capacity_test s.n s.c) none ≡ none → s.n + cond p 1 0 ≤ s.c
        go true h k = omega (arith, capacity_passed s.n s.c h k)
        go false h k = omega arith
