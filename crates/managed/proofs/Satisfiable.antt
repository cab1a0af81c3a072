-- The definitions can be met: every call of every instance has an outcome, and from every start with room every list of calls has a trace. So demand 3's
-- premises hold of something for every list.
use mathlib.Core.Path.{◌≡◌, refl, sym, ap, subst}
use mathlib.Core.Bool.{Bool, true, false, cond, true≢false}
use mathlib.Core.List.{List, [], ◌∷◌}
use mathlib.Core.Option.{Option, none, some}
use Prim.Native.Nat.{ℕ, ◌+◌, ◌≤◌, ◌<◌}
use native.Mathlib.Omega.{arith}
use lib.Dec.{leb, le→leb, leb→le}
use lib.ListN.{length}
use borrow.Author.Tests.{eq-eqb}
use Rattle.numbers.specs.NumberForm.{NumberForm}
use Rattle.machine.specs.Tables.{State}
use Rattle.machine.specs.Calls.{Call, push, replace_row, replace_column, remove, solve, solve_transpose, Answer, given, is_push, is_update}
use Rattle.machine.specs.Machine.{accepted, step_under}
use Rattle.machine.specs.Counts.{accepted_count}
use Rattle.machine.specs.Agreement.{Agree, AgreeCounted}
use Rattle.machine.proofs.Choice.{agree_refl}
use Rattle.storage.specs.Places.{l_length, u_length, overflows, l_index, u_index}
use Rattle.storage.proofs.Places.{l_index_within, l_index_injective, u_index_within, u_index_injective}
use Rattle.machine.specs.Counter.{capped, CountedState}
use Rattle.managed.specs.Instance.{Instance, view, view_counted}
use Rattle.managed.specs.Refusals.{workspace_tests, lends, refusal_at}
use Rattle.managed.specs.Lists.{pushes, Event, Trace, Setting}
use Rattle.managed.specs.Outcome.{Report, report, Frame, Outcome}
use Rattle.managed.proofs.StorageTests.{storage_passes}
use Rattle.managed.proofs.Refusals.{reached_within, accepted_storage}
use Rattle.storage.proofs.Kept.{kept_all}
use Rattle.managed.proofs.Outcomes.{outcome_refused, outcome_accepted}
use Rattle.managed.proofs.Writing.{written, written_at, written_kept}
use Rattle.managed.proofs.ListClaim.{accepted_grows}

module _ (N : NumberForm) (E T : N.Value) where
  open N use {Value}

  -- an outcome, with what it leaves
  pub record Met (s : Instance Value) (c : Call Value) : Type 0 where
    pub after : Instance Value
    pub report : Report Value
    pub outcome : Outcome N E T c s after report

  -- an accepted update: the machine's factors are written to their places
  module _ (s : Instance Value) (c : Call Value) (e : refusal_at N s c ≡ none) where
    abbrev R : State Value
    R = (accepted N E T (view N s) c).after

    abbrev t : Instance Value
    t = record {
      n = R.n;
      c = s.c;
      counter = capped (s.counter + accepted_count N E T (view N s) c);
      l = written N (l_index s.c) (λ i j. true) R.L R.n s.l;
      u = written N (u_index s.c) leb R.U R.n s.u;
      y = s.y;
      z = s.z;
      w = s.w;
    }

    within : R.n ≤ s.c
    within = omega (arith, accepted_grows N E T (view N s) c, reached_within N s c e)

    shown : Agree (view N t) R
    shown = record {
      n = refl;
      L = λ i j hi hj.
          let h : l_index s.c i j < length s.l = omega (arith, l_index_within s.c i j (omega (arith, within)) (omega (arith, within)), (accepted_storage N s c e).L) in
          written_at N (l_index s.c) (λ i j. true) R.L R.n s.l
          (λ i j p q hi hj hp hq _ _. l_index_injective s.c i j p q (omega (arith, within)) (omega (arith, within))) i j hi hj tt h;
      U = λ i j hij hj.
          let h : u_index s.c i j < length s.u = omega (arith, u_index_within s.c i j hij (omega (arith, within)), (accepted_storage N s c e).U) in
          written_at N (u_index s.c) leb R.U R.n s.u
          (λ i j p q hi hj hp hq a b. u_index_injective s.c i j p q (leb→le i j a) (omega (arith, within)) (leb→le p q b) (omega (arith, within))) i j (omega arith) hj (le→leb i j hij) h;
    }

    framed : Frame N true s t
    framed = record {
      l_kept = written_kept N (l_index s.c) (λ i j. true) R.L R.n s.l _ (λ i j hi hj _. (i, j, omega arith, omega arith, refl));
      u_kept = written_kept N (u_index s.c) leb R.U R.n s.u _ (λ i j hi hj a. (i, j, leb→le i j a, omega arith, refl));
      y_kept = kept_all N;
      z_kept = kept_all N;
      w_kept = kept_all N;
    }

  solve_stands : (S : State Value) (c : Call Value) → is_update c ≡ false → (accepted N E T S c).after ≡ S
  unfolding accepted
  solve_stands S (push row column d) h = absurd (true≢false h)
  solve_stands S (replace_row r row) h = absurd (true≢false h)
  solve_stands S (replace_column k column) h = absurd (true≢false h)
  solve_stands S (remove r k) h = absurd (true≢false h)
  solve_stands S (solve b) h = refl
  solve_stands S (solve_transpose b) h = refl

  pub every_call : (s : Instance Value) (c : Call Value) → Met s c
  every_call s c = go (refusal_at N s c) refl (is_update c) refl
    where
      made : Report Value
      made = report (accepted N E T (view N s) c).answer (accepted N E T (view N s) c).solved (accepted_count N E T (view N s) c)

      go : (o : Option Answer) → refusal_at N s c ≡ o → (b : Bool) → is_update c ≡ b → Met s c
      go (some r) e b k = record { after = s; report = report r (given c) 0; outcome = outcome_refused N E T c s e }
      go none e true k = record {
        after = t s c e;
        report = made;
        outcome = outcome_accepted N E T c s e (record { answer = refl; solved = refl; after = shown s c e }) refl refl (rw k)
            (subst (λ (p : Bool). Frame N p s (t s c e)) (sym k) (framed s c e));
      }
      go none e false k = record {
        after = s;
        report = made;
        outcome = outcome_accepted N E T c s e
            (record { answer = refl; solved = refl; after = subst (Agree (view N s)) (sym (solve_stands (view N s) c k)) (agree_refl (view N s)) }) refl refl (rw k)
            (subst (λ (p : Bool). Frame N p s s) (sym k) (record { l = kept_all N; u = refl; y = refl; z = refl; w = refl }));
      }

  -- ---- lists

  -- storage that is long enough, and workspaces of one length
  pub record Fit (s : Instance Value) : Type 0 where
    pub size : overflows s.c ≡ false
    pub l : l_length s.c ≤ length s.l
    pub u : u_length s.c ≤ length s.u
    pub z : length s.y ≡ length s.z
    pub w : length s.y ≡ length s.w

  fit_lends : (s : Instance Value) (c : Call Value) → Fit s → s.n ≤ s.c → lends s c ≡ none
  unfolding workspace_tests
  fit_lends s c f h =
      rw (← (storage_passes s.n s.c (length s.l) (length s.u) h f.size f.l f.u), eq-eqb (length s.y) (length s.z) f.z, eq-eqb (length s.y) (length s.w) f.w)
      (go (is_update c))
    where
      go : (b : Bool) → cond {A = Option Answer} b none none ≡ none
      go true = refl
      go false = refl

  -- a call leaves every buffer as long as it was
  record AsLong (s t : Instance Value) : Type 0 where
    c : t.c ≡ s.c
    l : length t.l ≡ length s.l
    u : length t.u ≡ length s.u
    y : length t.y ≡ length s.y
    z : length t.z ≡ length s.z
    w : length t.w ≡ length s.w

  as_long : {s t : Instance Value} {c : Call Value} {r : Report Value} → Outcome N E T c s t r → AsLong s t
  as_long {s} {t} {c} o = go (refusal_at N s c) refl (is_update c) refl
    where
      framed_long : (b : Bool) → Frame N b s t → AsLong s t
      framed_long true f = record { c = o.capacity; l = f.l_kept.long; u = f.u_kept.long; y = f.y_kept.long; z = f.z_kept.long; w = f.w_kept.long }
      framed_long false f = record { c = o.capacity; l = f.l.long; u = ap length f.u; y = ap length f.y; z = ap length f.z; w = ap length f.w }

      go : (p : Option Answer) → refusal_at N s c ≡ p → (b : Bool) → is_update c ≡ b → AsLong s t
      go (some r) e b k = subst (AsLong s) (sym (o.untouched r e)) (record { c = refl; l = refl; u = refl; y = refl; z = refl; w = refl })
      go none e b k = framed_long (is_update c) (o.frame e)

  -- the dimension grows by pushes alone
  grows : {s t : Instance Value} {c : Call Value} {r : Report Value} → Outcome N E T c s t r → t.n ≤ s.n + cond (is_push c) 1 0
  unfolding step_under
  grows {s} {t} {c} o = go (refusal_at N s c) o.result.after.n
    where
      go : (p : Option Answer) → t.n ≡ (step_under N E T p (view N s) c).after.n → t.n ≤ s.n + cond (is_push c) 1 0
      go none e = omega (arith, accepted_grows N E T (view N s) c)
      go (some r) e = omega arith

  fit_after : {s t : Instance Value} → AsLong s t → Fit s → Fit t
  fit_after k f = record {
    size = rw k.c f.size;
    l = rw (k.c, k.l) f.l;
    u = rw (k.c, k.u) f.u;
    z = rw (k.y, k.z) f.z;
    w = rw (k.y, k.w) f.w;
  }

  pub every_list : (room : ℕ) (cs : List (Call Value)) (s : Instance Value) → Fit s → s.n + pushes cs ≤ room → room ≤ s.c → room ≤ length s.y
      → (es : List (Event Value)) × Trace N E T s.c room (view_counted N s) cs es
  every_list room [] s f n c y = ([], tt)
  every_list room (x ∷ xs) s f n c y =
      let m = every_call s x in
      let k = as_long m.outcome in
      let rest = every_list room xs m.after (fit_after k f) (omega (arith, grows m.outcome)) (omega (arith, k.c)) (omega (arith, k.y)) in
      let e : Event Value = record { before = s; after = m.after; report = m.report } in
      (e ∷ rest.0, (record { resumes = record { state = agree_refl (view N s); counter = refl }; at_capacity = refl; lends = fit_lends s x f (omega arith); workspace = λ _. y; outcome = m.outcome }, subst (λ (d : ℕ). Trace N E T d room (view_counted N m.after) xs rest.0) k.c rest.1))

  -- two instances from one start
  pub every_setting : (cs : List (Call Value)) (S : CountedState Value) (s₁ s₂ : Instance Value) → AgreeCounted S (view_counted N s₁) → AgreeCounted S (view_counted N s₂) → Fit s₁ → Fit s₂
      → S.state.n + pushes cs ≤ s₁.c → S.state.n + pushes cs ≤ s₂.c → S.state.n + pushes cs ≤ length s₁.y → S.state.n + pushes cs ≤ length s₂.y
      → (es₁ : List (Event Value)) × (es₂ : List (Event Value)) × Setting N E T cs S (view_counted N s₁) (view_counted N s₂) s₁.c s₂.c es₁ es₂
  every_setting cs S s₁ s₂ a₁ a₂ f₁ f₂ c₁ c₂ y₁ y₂ =
      let r₁ = every_list (S.state.n + pushes cs) cs s₁ f₁ (omega (arith, a₁.state.n)) c₁ y₁ in
      let r₂ = every_list (S.state.n + pushes cs) cs s₂ f₂ (omega (arith, a₂.state.n)) c₂ y₂ in
      (r₁.0, r₂.0, record { start₁ = a₁; start₂ = a₂; room₁ = c₁; room₂ = c₂; trace₁ = r₁.1; trace₂ = r₂.1 })
