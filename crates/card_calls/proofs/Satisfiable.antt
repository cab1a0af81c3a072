-- The definitions can be met: every call of the writer and of the reader has an outcome; and from every start with room, every list that is cut in two has a
-- session that goes on from a card, where the active entries after the first part are doubles. So the premises of `Resumption` hold of something for every such
-- list.
use mathlib.Core.Path.{◌≡◌, refl, sym, ap, ◌∙◌, subst}
use mathlib.Core.Bool.{Bool, true, false, cond}
use mathlib.Core.List.{List, [], ◌∷◌, ◌++◌}
use mathlib.Core.Option.{Option, none, some}
use Prim.Native.Nat.{ℕ, ◌+◌, ◌≤◌, ◌<◌}
use native.Mathlib.Decide.{dec_lt}
use native.Mathlib.Omega.{arith}
use lib.Dec.{T as So, leb, le→leb, leb→le}
use lib.Ieee.{Float, nan, binary64, fits}
use lib.Ieee.Fits.{nan-fits}
use lib.ListN.{length, get_or, get_or-eq_default, take, replicate, length-replicate}
use Rattle.numbers.specs.NumberForm.{NumberForm}
use Rattle.numbers.specs.Tolerances.{managed_epsilon, managed_tiny}
use Rattle.machine.specs.Tables.{State, tabulate}
use Rattle.machine.specs.Calls.{Call, Answer, is_update}
use Rattle.machine.specs.Counter.{CountedState, capped}
use Rattle.machine.specs.Agreement.{Agree, AgreeCounted}
use Rattle.machine.proofs.Choice.{tabulate_length, tabulate_at}
use Rattle.machine.proofs.Refusals.{or_else_none, none_is_some}
use Rattle.storage.specs.Places.{l_index, u_index}
use Rattle.storage.proofs.Places.{l_index_within, l_index_injective, u_index_within, u_index_injective}
use Rattle.storage.specs.Views.{state_at}
use Rattle.managed.specs.Instance.{StateValue, state_value, Instance, instance, view_counted}
use Rattle.managed.specs.Refusals.{dimension_test, size_tests, storage_tests, refusal_at}
use Rattle.managed.specs.Outcome.{Report, Frame, Outcome}
use Rattle.managed.specs.Lists.{pushes, Event, Trace}
use Rattle.managed.proofs.Refusals.{StoragePassed, storage_passed}
use Rattle.managed.proofs.StorageTests.{storage_passes}
use Rattle.managed.proofs.Writing.{written, written_at, written_kept}
use Rattle.managed.proofs.Satisfiable.{Fit, every_list}
use Rattle.card_format.specs.Writing.{card_length, writing}
use Rattle.card_format.specs.Reading.{card_tests, reading}
use Rattle.card_format.specs.Answers.{CardAnswer, answered, answer_under}
use Rattle.card_calls.specs.CardCalls.{doubles, AreDoubles, held, write_tests, read_tests, card_under, CardWritten, CardRead}
use Rattle.card_calls.specs.CardDemands.{Wrote}
use Rattle.card_calls.specs.Sessions.{left_by, ManagedTrace, Resumed}
use Rattle.card_calls.proofs.CardDemands.{answered_under, passes_write, within_capacity, read_back}
use Rattle.card_calls.proofs.Sessions.{pushes_both, after_run, run_grows, left_agrees}

-- ---- the writer

pub every_writing : (v : StateValue) (l u : List Float) (old : List ℕ) → (new : List ℕ) × (answer : CardAnswer ℕ) × CardWritten v l u old new answer
every_writing v l u old =
    let tests = write_tests v (length l) (length u) (length old) in
    (card_under tests (writing (held v l u)) old, answer_under tests (card_length v.n), record { answered = refl; card = refl })

-- ---- the reader

module _ (capacity : ℕ) (m k : List Float) (card : List ℕ) where
  abbrev tests : Option Answer
  tests = read_tests capacity (length m) (length k) card

  abbrev S : State Float
  S = (reading card).state

  -- an accepted card: its entries are written to their places
  module _ (e : tests ≡ none) where
    storage : StoragePassed S.n capacity (length m) (length k)
    unfolding read_tests
    storage =
        let size = or_else_none (size_tests capacity (length m) (length k)) _ e in
        let rest = or_else_none (card_tests card) _ size.1 in
        storage_passed S.n capacity (length m) (length k) (rw (rest.1, size.0) refl)

    abbrev read_l : List Float
    read_l = written doubles (l_index capacity) (λ i j. true) S.L S.n m

    abbrev read_u : List Float
    read_u = written doubles (u_index capacity) leb S.U S.n k

    shown : Agree (state_at doubles capacity S.n read_l read_u) S
    shown = record {
      n = refl;
      L = λ i j hi hj.
          let h : l_index capacity i j < length m = omega (arith, l_index_within capacity i j (omega (arith, storage.dimension)) (omega (arith, storage.dimension)), storage.L) in
          written_at doubles (l_index capacity) (λ i j. true) S.L S.n m
          (λ i j p q hi hj hp hq _ _. l_index_injective capacity i j p q (omega (arith, storage.dimension)) (omega (arith, storage.dimension))) i j hi hj tt h;
      U = λ i j hij hj.
          let h : u_index capacity i j < length k = omega (arith, u_index_within capacity i j hij (omega (arith, storage.dimension)), storage.U) in
          written_at doubles (u_index capacity) leb S.U S.n k
          (λ i j p q hi hj hp hq a b. u_index_injective capacity i j p q (leb→le i j a) (omega (arith, storage.dimension)) (leb→le p q b) (omega (arith, storage.dimension)))
          i j (omega arith) hj (le→leb i j hij) h;
    }

    read_accepted : CardRead capacity m k card read_l read_u (answer_under tests (state_value S.n capacity (reading card).counter))
    read_accepted = record {
      answered = refl;
      untouched = λ a r. absurd (none_is_some e r);
      factors = λ _. shown;
      l_kept = λ _. written_kept doubles (l_index capacity) (λ i j. true) S.L S.n m _ (λ i j hi hj _. (i, j, hi, hj, refl));
      u_kept = λ _. written_kept doubles (u_index capacity) leb S.U S.n k _ (λ i j hi hj a. (i, j, leb→le i j a, hj, refl));
    }

  read_refused : {a : Answer} → tests ≡ some a → CardRead capacity m k card m k (answer_under tests (state_value S.n capacity (reading card).counter))
  read_refused e = record {
    answered = refl;
    untouched = λ b r. (refl, refl);
    factors = λ n. absurd (none_is_some n e);
    l_kept = λ n. absurd (none_is_some n e);
    u_kept = λ n. absurd (none_is_some n e);
  }

  pub every_reading : (m' : List Float) × (k' : List Float) × (answer : CardAnswer StateValue) × CardRead capacity m k card m' k' answer
  every_reading = go tests refl
    where
      go : (o : Option Answer) → tests ≡ o → (m' : List Float) × (k' : List Float) × (answer : CardAnswer StateValue) × CardRead capacity m k card m' k' answer
      go none e = (read_l e, read_u e, answer_under tests (state_value S.n capacity (reading card).counter), read_accepted e)
      go (some a) e = (m, k, answer_under tests (state_value S.n capacity (reading card).counter), read_refused e)

-- ---- what the first part leaves

module _ {A : Type 0} where
  -- the instance that a list of calls leaves, from the one that it starts with
  abbrev pub instance_left : Instance A → List (Event A) → Instance A
  instance_left s [] = s
  instance_left s (e ∷ es) = instance_left e.after es

module _ (N : NumberForm) (E T : N.Value) where
  open N use {Value}

  left_shown : (s : Instance Value) (es : List (Event Value)) → left_by N (view_counted N s) es ≡ view_counted N (instance_left s es)
  left_shown s [] = refl
  left_shown s (e ∷ es) = left_shown e.after es

  -- storage of one capacity that passes, whatever the dimension
  record Suffices (capacity : ℕ) (s : Instance Value) : Type 0 where
    at_capacity : s.c ≡ capacity
    size : size_tests s.c (length s.l) (length s.u) ≡ none

  -- a call leaves L and U as long as they were
  as_long : {s t : Instance Value} {c : Call Value} {r : Report Value} → Outcome N E T c s t r → (length t.l ≡ length s.l) × (length t.u ≡ length s.u)
  as_long {s} {t} {c} o = go (refusal_at N s c) refl
    where
      framed : (b : Bool) → Frame N b s t → (length t.l ≡ length s.l) × (length t.u ≡ length s.u)
      framed true f = (f.l_kept.long, f.u_kept.long)
      framed false f = (f.l.long, ap length f.u)

      go : (p : Option Answer) → refusal_at N s c ≡ p → (length t.l ≡ length s.l) × (length t.u ≡ length s.u)
      go (some a) e = (ap (λ (x : Instance Value). length x.l) (o.untouched a e), ap (λ (x : Instance Value). length x.u) (o.untouched a e))
      go none e = framed (is_update c) (o.frame e)

  left_suffices : (capacity room : ℕ) (cs : List (Call Value)) (s : Instance Value) (es : List (Event Value)) → Suffices capacity s
      → (R : CountedState Value) → Trace N E T capacity room R cs es → Suffices capacity (instance_left s es)
  left_suffices capacity room [] s [] f R t = f
  left_suffices capacity room [] s (e ∷ es) f R t = absurd t
  left_suffices capacity room (c ∷ cs) s [] f R t = absurd t
  left_suffices capacity room (c ∷ cs) s (e ∷ es) f R t =
      let b = e.before in
      let stored = or_else_none (storage_tests b.n b.c (length b.l) (length b.u)) _ t.0.lends in
      let size = (or_else_none (dimension_test b.n b.c) _ stored.0).1 in
      let long = as_long t.0.outcome in
      left_suffices capacity room cs e.after es
      (record { at_capacity = t.0.outcome.capacity ∙ t.0.at_capacity; size = rw (t.0.outcome.capacity, long.0, long.1) size })
      (view_counted N e.after) t.1

  fit_suffices : {s : Instance Value} → Fit N E T s → Suffices s.c s
  fit_suffices {s} f =
      let passed : storage_tests 0 s.c (length s.l) (length s.u) ≡ none = sym (storage_passes 0 s.c (length s.l) (length s.u) (omega arith) f.size f.l f.u) in
      record { at_capacity = refl; size = (or_else_none (dimension_test 0 s.c) _ passed).1 }

-- ---- storage of doubles

-- a state whose active entries are doubles
pub record OfDoubles (S : State Float) : Type 0 where
  pub L : (i j : ℕ) → i < S.n → j < S.n → So (fits binary64 (S.L i j))
  pub U : (i j : ℕ) → i ≤ j → j < S.n → So (fits binary64 (S.U i j))

of_doubles_alike : {S R : State Float} → Agree S R → OfDoubles S → OfDoubles R
of_doubles_alike a d = record {
  L = λ i j hi hj. subst (λ (x : Float). So (fits binary64 x)) (a.L i j (omega (arith, hi, a.n)) (omega (arith, hj, a.n))) (d.L i j (omega (arith, hi, a.n)) (omega (arith, hj, a.n)));
  U = λ i j h hj. subst (λ (x : Float). So (fits binary64 x)) (a.U i j h (omega (arith, hj, a.n))) (d.U i j h (omega (arith, hj, a.n)));
}

-- a double as it is, and the NaN for anything else
double_of : Float → Float
double_of x = cond (fits binary64 x) x nan

double_of_fits : (x : Float) → So (fits binary64 (double_of x))
unfolding double_of
double_of_fits x = go (fits binary64 x) refl
  where
    go : (b : Bool) → fits binary64 x ≡ b → So (fits binary64 (cond b x nan))
    go true e = subst So (sym e) tt
    go false e = nan-fits binary64

double_of_double : (x : Float) → So (fits binary64 x) → double_of x ≡ x
unfolding double_of
double_of_double x h = go (fits binary64 x) h
  where
    go : (b : Bool) → So b → cond b x nan ≡ x
    go true h = refl
    go false h = absurd h

-- each entry of a list so taken
as_doubles : List Float → List Float
as_doubles xs = tabulate (length xs) (λ q. double_of (get_or xs q doubles.absent))

as_doubles_long : (xs : List Float) → length (as_doubles xs) ≡ length xs
unfolding as_doubles
as_doubles_long xs = tabulate_length (length xs) _

as_doubles_at : (xs : List Float) (q : ℕ) → get_or (as_doubles xs) q doubles.absent ≡ double_of (get_or xs q doubles.absent)
unfolding as_doubles
as_doubles_at xs q = go (dec_lt q (length xs))
  where
    go : Dec (q < length xs) → get_or (as_doubles xs) q doubles.absent ≡ double_of (get_or xs q doubles.absent)
    go (yes h) = tabulate_at (length xs) _ doubles.absent q h
    go (no h) =
        get_or-eq_default (as_doubles xs) doubles.absent {n = q} (omega (arith, as_doubles_long xs))
        ∙ sym (double_of_double doubles.absent (nan-fits binary64))
        ∙ ap double_of (sym (get_or-eq_default xs doubles.absent {n = q} (omega arith)))

are_doubles : (xs : List Float) → AreDoubles (as_doubles xs)
are_doubles xs q = rw (as_doubles_at xs q) (double_of_fits _)

-- storage so taken holds the same active entries, where these are doubles
same_shown : (c n : ℕ) (l u : List Float) → OfDoubles (state_at doubles c n l u) → Agree (state_at doubles c n l u) (state_at doubles c n (as_doubles l) (as_doubles u))
same_shown c n l u d = record {
  n = refl;
  L = λ i j hi hj. sym (as_doubles_at l (l_index c i j) ∙ double_of_double _ (d.L i j hi hj));
  U = λ i j h hj. sym (as_doubles_at u (u_index c i j) ∙ double_of_double _ (d.U i j h hj));
}

-- ---- sessions

abbrev E : Float
E = managed_epsilon binary64

abbrev T : Float
T = managed_tiny binary64

-- an instance that starts with the state, another that lends its storage and workspaces to the second part, and a trace of the first part
module _ (cs₁ cs₂ : List (Call Float)) (S : CountedState Float) (s₁ s₂ : Instance Float) (start : AgreeCounted S (view_counted doubles s₁)) (fit₁ : Fit doubles E T s₁) (fit₂ : Fit doubles E T s₂)
    (room₁ : S.state.n + pushes (cs₁ ++ cs₂) ≤ s₁.c) (room₂ : S.state.n + pushes (cs₁ ++ cs₂) ≤ s₂.c) (workspace₂ : S.state.n + pushes (cs₁ ++ cs₂) ≤ length s₂.y)
    (es₁ : List (Event Float)) (trace₁ : ManagedTrace s₁.c (S.state.n + pushes (cs₁ ++ cs₂)) (view_counted doubles s₁) cs₁ es₁) where
  abbrev room : ℕ
  room = S.state.n + pushes (cs₁ ++ cs₂)

  abbrev left : Instance Float
  left = instance_left s₁ es₁

  -- the state that the writer gets
  abbrev v : StateValue
  v = state_value left.n left.c left.counter

  left_room : left.n + pushes cs₂ ≤ room
  left_room =
      let agrees = left_agrees doubles E T s₁.c room S (view_counted doubles s₁) cs₁ cs₂ es₁ start (omega arith) room₁ trace₁ in
      omega (arith, agrees.state.n, ap (λ (R : CountedState Float). R.state.n) (left_shown doubles E T s₁ es₁), run_grows doubles E T S cs₁, pushes_both cs₁ cs₂)

  left_passes : storage_tests left.n left.c (length left.l) (length left.u) ≡ none
  left_passes =
      let f = left_suffices doubles E T s₁.c room cs₁ s₁ es₁ (fit_suffices doubles E T fit₁) (view_counted doubles s₁) trace₁ in
      rw (within_capacity left.n left.c (omega (arith, left_room, room₁, f.at_capacity)), f.size) refl

  -- the storage that the writer is lent, which differs from what is left only where no double stands
  abbrev l : List Float
  l = as_doubles left.l

  abbrev u : List Float
  u = as_doubles left.u

  -- a buffer that is as long as the writing, and the card written into it
  abbrev buffer : List ℕ
  buffer = replicate (card_length left.n) 0

  abbrev card : List ℕ
  card = take (card_length left.n) (every_writing v l u buffer).0

  wrote : Wrote v l u card
  wrote =
      let call = every_writing v l u buffer in
      let passes : storage_tests left.n left.c (length l) (length u) ≡ none = rw (as_doubles_long left.l, as_doubles_long left.u) left_passes in
      record {
        l_holds = are_doubles left.l;
        u_holds = are_doubles left.u;
        old = buffer;
        new = call.0;
        answer = call.1;
        outcome = call.2;
        passed = passes_write v (length l) (length u) (length buffer) (passes, omega (arith, length-replicate {A = ℕ} (card_length left.n) 0));
        is_beginning = refl;
      }

  -- whatever the first part's trace is, the second starts with what the reader hands back and stores
  pub every_continuation : OfDoubles (left_by doubles (view_counted doubles s₁) es₁).state → (es₂ : List (Event Float)) × Resumed cs₁ cs₂ S (view_counted doubles s₁) s₁.c s₂.c es₁ es₂
  every_continuation d =
      let call = every_reading s₂.c s₂.l s₂.u card in
      let size = (fit_suffices doubles E T fit₂).size in
      let back = read_back v l u card wrote s₂.c s₂.l s₂.u call.0 call.1 call.2 (omega (arith, left_room, room₂)) size call.3 in
      let w = state_value left.n s₂.c (capped left.counter) in
      let passed = (answered_under _ _ w (sym back.0 ∙ call.3.answered)).0 in
      let second = instance w call.0 call.1 s₂.y s₂.z s₂.w in
      let fit : Fit doubles E T second =
      record { size = fit₂.size; l = rw (call.3.l_kept passed).long fit₂.l; u = rw (call.3.u_kept passed).long fit₂.u; z = fit₂.z; w = fit₂.w } in
      let rest = every_list doubles E T room cs₂ second fit left_room room₂ workspace₂ in
      let trace₂ : (x : StateValue) → call.2 ≡ answered x → ManagedTrace s₂.c room (held x call.0 call.1) cs₂ rest.0 =
      λ x e. subst (λ (a : StateValue). ManagedTrace s₂.c room (held a call.0 call.1) cs₂ rest.0) (sym (answered_under none w x (sym e ∙ back.0)).1) rest.1 in
      let shows = left_shown doubles E T s₁ es₁ in
      let resumes : AgreeCounted (left_by doubles (view_counted doubles s₁) es₁) (held v l u) =
      rw shows (record { state = same_shown left.c left.n left.l left.u (subst (λ (R : CountedState Float). OfDoubles R.state) shows d); counter = refl }) in (
        rest.0,
        record {
          start = start;
          room₁ = room₁;
          room₂ = room₂;
          trace₁ = trace₁;
          v = v;
          l = l;
          u = u;
          card = card;
          resumes = resumes;
          wrote = wrote;
          l₂ = s₂.l;
          u₂ = s₂.u;
          l₂' = call.0;
          u₂' = call.1;
          answer = call.2;
          lends = size;
          outcome = call.3;
          trace₂ = trace₂;
        },
      )

-- every list, cut anywhere, after whose first part the machine has doubles
pub every_resumption : (cs₁ cs₂ : List (Call Float)) (S : CountedState Float) (s₁ s₂ : Instance Float) → AgreeCounted S (view_counted doubles s₁) → Fit doubles E T s₁ → Fit doubles E T s₂
    → S.state.n + pushes (cs₁ ++ cs₂) ≤ s₁.c → S.state.n + pushes (cs₁ ++ cs₂) ≤ s₂.c → S.state.n + pushes (cs₁ ++ cs₂) ≤ length s₁.y → S.state.n + pushes (cs₁ ++ cs₂) ≤ length s₂.y
    → OfDoubles (after_run doubles E T S cs₁).state
    → (es₁ : List (Event Float)) × (es₂ : List (Event Float)) × Resumed cs₁ cs₂ S (view_counted doubles s₁) s₁.c s₂.c es₁ es₂
every_resumption cs₁ cs₂ S s₁ s₂ a f₁ f₂ c₁ c₂ y₁ y₂ d =
    let room = S.state.n + pushes (cs₁ ++ cs₂) in
    let first = every_list doubles E T room cs₁ s₁ f₁ (omega (arith, a.state.n, pushes_both cs₁ cs₂)) c₁ y₁ in
    let left = left_agrees doubles E T s₁.c room S (view_counted doubles s₁) cs₁ cs₂ first.0 a (omega arith) c₁ first.1 in
    let second = every_continuation cs₁ cs₂ S s₁ s₂ a f₁ f₂ c₁ c₂ y₂ first.0 first.1 (of_doubles_alike left.state d) in
    (first.0, second.0, second.1)
