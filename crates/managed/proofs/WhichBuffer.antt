-- Which buffer was short: the number of a call, test by test, and what follows from it in both directions.
use mathlib.Core.Path.{◌≡◌, refl, sym, ap, ◌∙◌, subst}
use mathlib.Core.Bool.{Bool, true, false, not, ◌&&◌, ◌||◌, cond}
use mathlib.Core.Logic.{◌≢◌}
use mathlib.Core.Option.{Option, none, some}
use Prim.Native.Nat.{ℕ}
use native.Mathlib.Omega.{arith}
use lib.Dec.{T as So, ltb, eqb, ltb→lt, nltb→le, T_not, not_T}
use lib.Ieee.{Format}
use lib.Ieee.Fits.{and_i, and_l, and_r, eq→eqb}
use borrow.Author.Tests.{lt-ltb, le-ltb}
use Rattle.numbers.specs.NumberForm.{NumberForm, ieee}
use Rattle.numbers.specs.Tolerances.{managed_epsilon, managed_tiny}
use Rattle.machine.specs.Calls.{Call, Answer, number_of, refusal_number, ◌or_else◌, refuse_if, is_update}
use Rattle.machine.proofs.Choice.{is_true, is_false, neqb→ne, both_equal}
use Rattle.machine.proofs.Refusals.{or_else_last, none_is_some}
use Rattle.machine.proofs.Numbered.{Numbered}
use Rattle.storage.specs.Places.{l_length, u_length, overflows}
use Rattle.managed.specs.declared.LentLengths.{LentLengths}
use Rattle.managed.specs.Instance.{Instance, lengths_of}
use Rattle.managed.specs.Refusals.{dimension_test, size_tests, storage_tests, workspace_tests, lent_tests, storage_alone, refusal_at}
use Rattle.managed.specs.Outcome.{Report, Outcome}
use Rattle.managed.specs.WhichBuffer.{SizesAgree, ShortL, ShortU, UnequalWorkspaces, BufferNamed, WhichBuffer}
use Rattle.managed.proofs.Refused.{behind_numbered}
use Rattle.managed.proofs.Answered.{answer_number}

-- ---- the number, test by test

-- the first test that holds gives its number, and behind all of them stands x
abbrev first_of : Bool → Bool → Bool → Bool → Bool → ℕ → ℕ
first_of dimension size short_l short_u unequal x = cond dimension 1 (cond size 2 (cond short_l 3 (cond short_u 13 (cond unequal 14 x))))

in_order_lem : (d o l u update w : Bool) (behind : Option Answer)
    → refusal_number (((refuse_if d 1 or_else refuse_if o 2 or_else refuse_if l 3 or_else refuse_if u 13) or_else cond update (refuse_if w 14) none) or_else behind)
    ≡ first_of d o l u (update && w) (refusal_number behind)
in_order_lem true o l u update w behind = refl
in_order_lem false true l u update w behind = refl
in_order_lem false false true u update w behind = refl
in_order_lem false false false true update w behind = refl
in_order_lem false false false false true true behind = refl
in_order_lem false false false false true false behind = refl
in_order_lem false false false false false w behind = refl

-- a test whose number was not given did not hold
passed_by : (k m : ℕ) (b : Bool) {x : ℕ} → So (not (eqb k m)) → cond b k x ≡ m → So (not b) × (x ≡ m)
passed_by k m true h e = absurd (neqb→ne k m h e)
passed_by k m false h e = (tt, e)

-- one whose number was given held, where nothing behind it gives that
held : (k : ℕ) (b : Bool) {x : ℕ} → cond b k x ≡ k → x ≢ k → So b
held k true e h = tt
held k false e h = absurd (h e)

-- neither 3, 13 nor 14
abbrev Other : ℕ → Type 0
Other k = So (not (eqb k 3 || (eqb k 13 || eqb k 14)))

other_number : (o : Option Answer) → Numbered Other o → Other (refusal_number o)
other_number none h = tt
other_number (some a) h = h a refl

-- ---- both directions

module _ (update : Bool) (n c : ℕ) (lent : LentLengths) (behind : Option Answer) (other : Numbered Other behind) {number : ℕ}
    (is_number : number ≡ refusal_number (lent_tests update n c lent or_else behind)) where
  abbrev short_L : Bool
  short_L = ltb lent.l (l_length c)

  abbrev short_U : Bool
  short_U = ltb lent.u (u_length c)

  abbrev equal : Bool
  equal = eqb lent.y lent.z && eqb lent.y lent.w

  abbrev unequal : Bool
  unequal = update && not equal

  abbrev Equal : Type 0
  Equal = (lent.y ≡ lent.z) × (lent.y ≡ lent.w)

  test_holds : Equal → So equal
  test_holds h = and_i (eqb lent.y lent.z) (eqb lent.y lent.w) (eq→eqb h.0) (eq→eqb h.1)

  lengths_equal : So equal → Equal
  lengths_equal = both_equal lent.y lent.z lent.y lent.w

  -- what stands behind the buffers' tests
  abbrev x : ℕ
  x = refusal_number behind

  by_tests : number ≡ first_of (ltb c n) (overflows c) short_L short_U unequal x
  unfolding dimension_test size_tests workspace_tests
  by_tests = is_number ∙ in_order_lem (ltb c n) (overflows c) short_L short_U update (not equal) behind

  -- of 3, 13 and 14 each, `Other` is itself the absurdity
  none_behind : (m : ℕ) → (Other m → ⊥) → x ≢ m
  none_behind m h e = h (subst Other e (other_number behind other))

  -- 1 and 2 were passed by
  sizes : (m : ℕ) → So (not (eqb 1 m)) → So (not (eqb 2 m)) → number ≡ m → SizesAgree n c × (cond short_L 3 (cond short_U 13 (cond unequal 14 x)) ≡ m)
  sizes m h k e =
      let one = passed_by 1 m (ltb c n) h (sym by_tests ∙ e) in
      let two = passed_by 2 m (overflows c) k one.1 in
      ((nltb→le c n one.0, is_false (overflows c) two.0), two.1)

  L_named : number ≡ 3 → ShortL n c lent
  L_named e =
      let s = sizes 3 tt tt e in
      let no_other : cond short_U 13 (cond unequal 14 x) ≢ 3 = λ f. none_behind 3 (λ o. o) (passed_by 14 3 unequal tt (passed_by 13 3 short_U tt f).1).1 in
      (s.0, ltb→lt lent.l (l_length c) (held 3 short_L s.1 no_other))

  U_named : number ≡ 13 → ShortU n c lent
  U_named e =
      let s = sizes 13 tt tt e in
      let l = passed_by 3 13 short_L tt s.1 in
      let no_other : cond unequal 14 x ≢ 13 = λ f. none_behind 13 (λ o. o) (passed_by 14 13 unequal tt f).1 in
      (s.0, omega (arith, nltb→le lent.l (l_length c) l.0), omega (arith, ltb→lt lent.u (u_length c) (held 13 short_U l.1 no_other)))

  workspaces_named : number ≡ 14 → So update × UnequalWorkspaces n c lent
  workspaces_named e =
      let s = sizes 14 tt tt e in
      let l = passed_by 3 14 short_L tt s.1 in
      let u = passed_by 13 14 short_U tt l.1 in
      let w = held 14 unequal u.1 (none_behind 14 (λ o. o)) in
      (and_l update (not equal) w, (s.0, nltb→le lent.l (l_length c) l.0, nltb→le lent.u (u_length c) u.0, λ same. T_not equal (and_r update (not equal) w) (test_holds same)))

  unequal_holds : So update → ¬ Equal → unequal ≡ true
  unequal_holds h different = is_true unequal (and_i update (not equal) h (not_T equal (λ t. different (lengths_equal t))))

  buffer_named : BufferNamed update n c lent number
  buffer_named = record {
    L = (L_named, λ h. by_tests ∙ rw (le-ltb c n h.0.0, h.0.1, lt-ltb lent.l (l_length c) h.1));
    U = (U_named, λ h. by_tests ∙ rw (le-ltb c n h.0.0, h.0.1, le-ltb lent.l (l_length c) (omega (arith, h.1)), lt-ltb lent.u (u_length c) (omega (arith, h.2))));
    workspaces = (
      workspaces_named,
      λ h. by_tests ∙ rw (le-ltb c n h.1.0.0, h.1.0.1, le-ltb lent.l (l_length c) h.1.1, le-ltb lent.u (u_length c) h.1.2, unequal_holds h.0 h.1.3),
    );
  }

-- ---- the calls

module _ (N : NumberForm) (E T : N.Value) {c : Call N.Value} {s t : Instance N.Value} {r : Report N.Value} (o : Outcome N E T c s t r) where
  call_named : BufferNamed (is_update c) s.n s.c (lengths_of s) (number_of r.answer)
  unfolding refusal_at
  call_named = buffer_named (is_update c) s.n s.c (lengths_of s) _ (behind_numbered Other tt tt tt tt tt tt tt tt N s c) (answer_number N E T o)

pub which_buffer : (F : Format) → WhichBuffer F
which_buffer F = record {
  calls = λ c s t r o. call_named (ieee F) (managed_epsilon F) (managed_tiny F) o;
  storage = λ n c l u.
      buffer_named false n c (storage_alone l u) none (λ a e. absurd (none_is_some refl e))
      (ap refusal_number (sym (or_else_last (storage_tests n c l u) none refl) ∙ sym (or_else_last (storage_tests n c l u or_else none) none refl)));
}
