-- No NaN goes into a model: 23 against the data, in both directions, and how the places of a push are counted.
use mathlib.Core.Path.{◌≡◌, refl, sym, ap, ◌∙◌}
use mathlib.Core.Bool.{false, not, cond, true≢false}
use mathlib.Core.List.{List, [], ◌∷◌, ◌++◌}
use mathlib.Core.Logic.{◌≢◌}
use mathlib.Core.Option.{Option, none, some}
use Prim.Native.Nat.{ℕ, suc, ◌+◌, ◌≤◌, ◌<◌}
use native.Mathlib.Omega.{arith}
use lib.Dec.{T as So, ltb, eqb, eqb→eq}
use lib.ListN.{length, length-append, get_or, get_or-append}
use lib.Ieee.{Float, nan, Format}
use borrow.Author.Tests.{eq-eqb, lt-leb}
use Rattle.numbers.specs.NumberForm.{NumberForm, ieee}
use Rattle.numbers.specs.Tolerances.{managed_epsilon, managed_tiny}
use Rattle.machine.specs.Calls.{Call, push, replace_row, replace_column, remove, solve, solve_transpose, Answer, refused, refused_at, number_of, refusal_number, ◌or_else◌, is_push, is_update}
use Rattle.machine.specs.LentData.{lent_data, first_non_finite, data_test}
use Rattle.machine.specs.Machine.{index_tests}
use Rattle.machine.proofs.Choice.{neqb→ne}
use Rattle.machine.proofs.Refusals.{or_else_none, refuse_if_false, equations_hold, equation_holds, index_within, none_is_some}
use Rattle.machine.proofs.Numbered.{Numbered, when_numbered, test_numbered, index_numbered}
use Rattle.machine.proofs.LentData.{finite_at, First, first_found, all_finite}
use Rattle.managed.specs.Instance.{Instance, lengths_of, view}
use Rattle.managed.specs.Refusals.{capacity_test, lends, reached, refusal_at}
use Rattle.managed.specs.Outcome.{Report, Outcome}
use Rattle.managed.specs.FiniteData.{DataAgree, DataNamed, PushPlaces, FiniteData}
use Rattle.managed.proofs.Refusals.{storage_passed, capacity_passed, passed}
use Rattle.managed.proofs.Refused.{lent_numbered, refused_untouched}
use Rattle.managed.proofs.Answered.{answer_number, answered_0}

-- ---- which part gave 23

-- another number than 23
abbrev Other : ℕ → Type 0
Other k = So (not (eqb k 23))

number_differs : (o : Option Answer) (a : Answer) → Numbered Other o → o ≡ some a → number_of a ≢ 23
number_differs o a h e = neqb→ne (number_of a) 23 (h a e)

-- a part that gives other numbers was passed by
passed_by : (o p : Option Answer) → Numbered Other o → refusal_number (o or_else p) ≡ 23 → (o ≡ none) × (refusal_number p ≡ 23)
passed_by none p h e = (refl, e)
passed_by (some a) p h e = absurd (number_differs (some a) a h refl e)

-- before such a part it was given
gave : (o p : Option Answer) → Numbered Other p → refusal_number (o or_else p) ≡ 23 → (a : Answer) × (o ≡ some a)
gave (some a) p h e = (a, refl)
gave none none h e = absurd (omega (arith, e))
gave none (some a) h e = absurd (number_differs (some a) a h refl e)

module _ (N : NumberForm) (s : Instance N.Value) where
  open N use {Value}

  -- ---- indices and lengths, in both directions

  agrees : (c : Call Value) → s.n ≤ s.c → cond (is_push c) (capacity_test s.n s.c) none ≡ none → index_tests N (view N s) c ≡ none → {a : Answer} → data_test N c ≡ some a
      → DataAgree s c
  unfolding index_tests first_non_finite
  agrees (push row column d) h room e f = let both = equations_hold (length row) s.n (length column) s.n 7 e in (capacity_passed s.n s.c h room, both.0, both.1)
  agrees (replace_row r values) h room e f = let both = or_else_none _ _ e in (index_within s.n r (refused 5) both.0, equation_holds (length values) s.n 7 both.1)
  agrees (replace_column k values) h room e f = let both = or_else_none _ _ e in (index_within s.n k (refused 6) both.0, equation_holds (length values) s.n 7 both.1)
  agrees (remove r k) h room e f = none_is_some refl f
  agrees (solve b) h room e f = none_is_some refl f
  agrees (solve_transpose b) h room e f = none_is_some refl f

  index_passes : (c : Call Value) → DataAgree s c → (cond (is_push c) (capacity_test s.n s.c) none ≡ none) × (index_tests N (view N s) c ≡ none)
  unfolding index_tests
  index_passes (push row column d) h =
      (refuse_if_false (eqb s.n s.c) 4 (λ t. omega (arith, eqb→eq s.n s.c t, h.0)), rw (eq-eqb (length row) s.n h.1, eq-eqb (length column) s.n h.2) refl)
  index_passes (replace_row r values) h = (refl, rw (lt-leb s.n r h.0, eq-eqb (length values) s.n h.1) refl)
  index_passes (replace_column k values) h = (refl, rw (lt-leb s.n k h.0, eq-eqb (length values) s.n h.1) refl)
  index_passes (remove r k) h = absurd h
  index_passes (solve b) h = absurd h
  index_passes (solve_transpose b) h = absurd h

  -- ---- 23 and the first place

  -- where all before it passes, data that are refused are what the call is refused for
  data_decides : (c : Call Value) {a : Answer} → lends s c ≡ none → cond (is_push c) (capacity_test s.n s.c) none ≡ none → index_tests N (view N s) c ≡ none → data_test N c ≡ some a
      → refusal_at N s c ≡ some a
  unfolding refusal_at
  data_decides c lent capacity indices found = rw (lent, capacity, indices, found) refl

  -- all that is tested before 23 agrees, and the data are refused with a
  record Given (c : Call Value) : Type 0 where
    is_lent : lends s c ≡ none
    agree : DataAgree s c
    answer : Answer
    is_refused : refusal_at N s c ≡ some answer
    first : First N 0 (lent_data c) answer

  given_23 : (c : Call Value) → refusal_number (refusal_at N s c) ≡ 23 → Given c
  unfolding refusal_at
  given_23 c e =
      let lent = passed_by (lends s c) _ (lent_numbered Other tt tt tt tt tt (is_update c) s.n s.c (lengths_of s)) e in
      let capacity = passed_by _ _ (when_numbered Other (is_push c) _ (test_numbered Other (eqb s.n s.c) 4 tt)) lent.1 in
      let indices = passed_by _ _ (index_numbered Other tt tt tt tt tt N (view N s) c) capacity.1 in
      let found = gave (data_test N c) _ (when_numbered Other (is_update c) _ (test_numbered Other (ltb (length s.y) (reached s c)) 8 tt)) indices.1 in
      record {
        is_lent = lent.0;
        agree = agrees c (storage_passed _ _ _ _ (or_else_none _ _ lent.0).0).dimension capacity.0 indices.0 found.1;
        answer = found.0;
        is_refused = data_decides c lent.0 capacity.0 indices.0 found.1;
        first = first_found N 0 (lent_data c) found.0 found.1;
      }

  -- and the other way round
  refused_23 : (c : Call Value) → lends s c ≡ none → DataAgree s c → (p : ℕ) → p < length (lent_data c) → finite_at N (lent_data c) p ≡ false → refusal_number (refusal_at N s c) ≡ 23
  refused_23 c lent agree p below bad = go (data_test N c) refl
    where
      go : (o : Option Answer) → data_test N c ≡ o → refusal_number (refusal_at N s c) ≡ 23
      go none e = absurd (true≢false (sym (all_finite N 0 (lent_data c) e p below) ∙ bad))
      go (some a) e =
          let tests = index_passes c agree in
          ap refusal_number (data_decides c lent tests.0 tests.1 e) ∙ ap number_of (first_found N 0 (lent_data c) a e).is_named

-- ---- an outcome

module _ (F : Format) {c : Call Float} {s t : Instance Float} {r : Report Float} (o : Outcome (ieee F) (managed_epsilon F) (managed_tiny F) c s t r) where
  is_given : number_of r.answer ≡ 23 → Given (ieee F) s c
  is_given e = given_23 (ieee F) s c (sym (answer_number (ieee F) (managed_epsilon F) (managed_tiny F) o) ∙ e)

  call_named : DataNamed s c r.answer
  call_named = record {
    given = (
      λ e. let g = is_given e in (g.is_lent, g.agree, (g.first.i, (g.first.below, g.first.non_finite))),
      λ h. answer_number (ieee F) (managed_epsilon F) (managed_tiny F) o ∙ refused_23 (ieee F) s c h.0 h.1 h.2.0 h.2.1.0 h.2.1.1,
    );
    first = λ e.
        let g = is_given e in
        let f = g.first in
        (f.i, (refused_untouched (ieee F) (managed_epsilon F) (managed_tiny F) o g.answer g.is_refused).0 ∙ f.is_named ∙ ap (refused_at 23) (omega arith), (f.below, f.non_finite), f.finite_before);
    carried_out = λ z. all_finite (ieee F) 0 (lent_data c) (passed (ieee F) s c (answered_0 (ieee F) (managed_epsilon F) (managed_tiny F) o z)).has_values;
  }

-- ---- the places of a push

module _ {A : Type 0} where
  -- behind a list
  get_or_behind : (xs ys : List A) (d : A) (i : ℕ) → get_or (xs ++ ys) (length xs + i) d ≡ get_or ys i d
  get_or_behind [] ys d i = ap (λ (j : ℕ). get_or ys j d) (omega arith)
  get_or_behind (x ∷ xs) ys d i =
      let place : suc (length xs) + i ≡ suc (length xs + i) = omega arith in
      ap (λ (j : ℕ). get_or (x ∷ (xs ++ ys)) j d) place ∙ get_or_behind xs ys d i

push_places : (n : ℕ) (row column : List Float) (d : Float) → length row ≡ n → length column ≡ n → PushPlaces n row column d
push_places n row column d r k =
    let rest = column ++ (d ∷ []) in
    record {
      row_place = λ i h. get_or-append row rest nan i (omega (arith, r));
      column_place = λ i h. ap (λ (m : ℕ). get_or (row ++ rest) (m + i) nan) (sym r) ∙ get_or_behind row rest nan i ∙ get_or-append column (d ∷ []) nan i (omega (arith, k));
      diagonal_place =
          let place : n + n ≡ length row + (length column + 0) = omega (arith, r, k) in
          ap (λ (j : ℕ). get_or (row ++ rest) j nan) place ∙ get_or_behind row rest nan (length column + 0) ∙ get_or_behind column (d ∷ []) nan 0;
      no_more = length-append row rest ∙ omega (arith, length-append column (d ∷ []), r, k);
    }

pub finite_data : (F : Format) → FiniteData F
finite_data F = record { calls = λ c s t r o. call_named F o; push_places = push_places }
