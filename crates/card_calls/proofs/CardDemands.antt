-- What request (b) asks of the writer and the reader together holds.
use mathlib.Core.Path.{◌≡◌, refl, sym, ap, ◌∙◌, subst}
use mathlib.Core.Bool.{Bool, true, false}
use mathlib.Core.List.{List, ◌++◌}
use mathlib.Core.Logic.{◌↔◌}
use mathlib.Core.Option.{Option, none, some}
use Prim.Native.Nat.{ℕ, ◌^◌, ◌≤◌, ◌<◌}
use native.Mathlib.Decide.{dec_lt}
use native.Mathlib.Omega.{arith}
use lib.Dec.{T, ltb}
use lib.Ieee.{Float}
use lib.ListN.{length, take, drop}
use lib.Seq.{take-append_seam, drop-append_seam}
use borrow.Author.Tests.{lt-ltb, le-ltb, ltb-false}
use Rattle.machine.specs.Calls.{Answer, refused, refuse_if}
use Rattle.machine.specs.Counter.{capped, as_counted}
use Rattle.machine.specs.Agreement.{AgreeCounted}
use Rattle.machine.proofs.Choice.{is_false, agree_sym, agree_counted_trans}
use Rattle.machine.proofs.Refusals.{or_else_none, refuse_if_none}
use Rattle.storage.specs.Views.{Kept}
use Rattle.storage.specs.Places.{LPlace, UPlace, overflows, l_index, u_index}
use Rattle.storage.proofs.Lengths.{overflows_from}
use Rattle.managed.specs.Instance.{StateValue, state_value}
use Rattle.managed.specs.Refusals.{dimension_test, size_tests, storage_tests}
use Rattle.managed.proofs.Refusals.{storage_passed}
use Rattle.card_format.specs.Writing.{card_length, writing}
use Rattle.card_format.specs.Reading.{card_tests, reading}
use Rattle.card_format.specs.Answers.{CardAnswer, answered, not_answered, answer_under}
use Rattle.card_format.specs.CardLaws.{AreBytes, Writable}
use Rattle.card_format.proofs.Cards.{count_bound}
use Rattle.card_format.proofs.CardLaws.{card_laws}
use Rattle.card_calls.specs.CardCalls.{doubles, held, write_tests, read_tests, card_under, CardWritten, CardRead}
use Rattle.card_calls.specs.CardDemands.{Wrote, CardDemands}

-- ---- answers

is_answered : {X : Type 0} → CardAnswer X → Bool
is_answered (answered x) = true
is_answered (not_answered a) = false

value_of : {X : Type 0} → X → CardAnswer X → X
value_of d (answered x) = x
value_of d (not_answered a) = d

-- what was answered was refused nothing
pub answered_under : {X : Type 0} (o : Option Answer) (x y : X) → answered y ≡ answer_under o x → (o ≡ none) × (y ≡ x)
unfolding is_answered value_of
answered_under none x y e = (refl, ap (value_of y) e)
answered_under (some a) x y e = absurd (subst T (ap is_answered e) tt)

refused_under : {X : Type 0} (o : Option Answer) (x : X) (a : Answer) → not_answered a ≡ answer_under o x → (b : Answer) × (o ≡ some b)
unfolding is_answered
refused_under none x a e = absurd (subst T (sym (ap is_answered e)) tt)
refused_under (some b) x a e = (b, refl)

-- ---- the writer

not_short : (card needed : ℕ) → refuse_if (ltb card needed) 15 ≡ none → needed ≤ card
not_short card needed e = ltb-false card needed (is_false (ltb card needed) (refuse_if_none (ltb card needed) 15 e))

pub long_enough : (card needed : ℕ) → needed ≤ card → refuse_if (ltb card needed) 15 ≡ none
long_enough card needed h = rw (le-ltb card needed h) refl

pub write_passed : (v : StateValue) (l u card : ℕ) → write_tests v l u card ≡ none → (storage_tests v.n v.capacity l u ≡ none) × (card_length v.n ≤ card)
unfolding write_tests
write_passed v l u card e = let o = or_else_none (storage_tests v.n v.capacity l u) _ e in (o.0, not_short card (card_length v.n) o.1)

pub passes_write : (v : StateValue) (l u card : ℕ) → (storage_tests v.n v.capacity l u ≡ none) × (card_length v.n ≤ card) → write_tests v l u card ≡ none
unfolding write_tests
passes_write v l u card h = rw h.0 (long_enough card (card_length v.n) h.1)

-- a capacity whose lengths fit usize
pub capacity_bound : (c : ℕ) → overflows c ≡ false → c < 2 ^ 32
capacity_bound c e = go (dec_lt c (2 ^ 32))
  where
    go : Dec (c < 2 ^ 32) → c < 2 ^ 32
    go (yes h) = h
    go (no h) = absurd (subst T (sym (overflows_from c (omega arith)) ∙ e) tt)

module _ {v : StateValue} {l u : List Float} {bytes : List ℕ} (w : Wrote v l u bytes) where
  -- the state is one that can be written
  writable : Writable (held v l u)
  writable =
      let p = storage_passed v.n v.capacity (length l) (length u) (write_passed v (length l) (length u) (length w.old) w.passed).0 in
      record {
        count = count_bound v.n (omega (arith, p.dimension, capacity_bound v.capacity p.size));
        L = λ i j hi hj. w.l_holds (l_index v.capacity i j);
        U = λ i j hi hj. w.u_holds (u_index v.capacity i j);
      }

  pub wrote_writing : bytes ≡ writing (held v l u)
  wrote_writing =
      let written = writing (held v l u) in
      let long : length written ≡ card_length v.n = (card_laws.long (held v l u)).0 in
      let left : w.new ≡ written ++ drop (length written) w.old = w.outcome.card ∙ ap (λ (o : Option Answer). card_under o written w.old) w.passed in
      w.is_beginning ∙ ap (λ (xs : List ℕ). take (card_length v.n) xs) left
      ∙ ap (λ (k : ℕ). take k (written ++ drop (length written) w.old)) (sym long)
      ∙ take-append_seam written (drop (length written) w.old)

nothing_beyond : (v : StateValue) (l u : List Float) (old new : List ℕ) (k : ℕ) → CardWritten v l u old new (answered k)
    → (k ≡ card_length v.n) × (k ≤ length old) × (drop k new ≡ drop k old)
nothing_beyond v l u old new k o =
    let a = answered_under (write_tests v (length l) (length u) (length old)) (card_length v.n) k o.answered in
    let p = write_passed v (length l) (length u) (length old) a.0 in
    let w = writing (held v l u) in
    let long : k ≡ length w = a.1 ∙ sym (card_laws.long (held v l u)).0 in
    let left : new ≡ w ++ drop (length w) old = o.card ∙ ap (λ (t : Option Answer). card_under t w old) a.0 in
    (a.1, omega (arith, a.1, p.1), rw long (ap (drop (length w)) left ∙ drop-append_seam w (drop (length w) old)))

write_refused : (v : StateValue) (l u : List Float) (old new : List ℕ) (a : Answer) → CardWritten v l u old new (not_answered a) → new ≡ old
write_refused v l u old new a o =
    let r = refused_under (write_tests v (length l) (length u) (length old)) (card_length v.n) a o.answered in
    o.card ∙ ap (λ (t : Option Answer). card_under t (writing (held v l u)) old) r.1

one_writing : (v v' : StateValue) (l u l' u' : List Float) (bytes bytes' : List ℕ) → Wrote v l u bytes → Wrote v' l' u' bytes'
    → AgreeCounted (as_counted (held v l u)) (as_counted (held v' l' u')) ↔ (bytes ≡ bytes')
one_writing v v' l u l' u' bytes bytes' w w' = (
  λ a. wrote_writing w ∙ card_laws.same_bytes (held v l u) (held v' l' u') a ∙ sym (wrote_writing w'),
  λ e. card_laws.same_state (held v l u) (held v' l' u') (writable w) (writable w') (sym (wrote_writing w) ∙ e ∙ wrote_writing w'),
)

-- ---- the reader

pub within_capacity : (n capacity : ℕ) → n ≤ capacity → dimension_test n capacity ≡ none
unfolding dimension_test
within_capacity n capacity h = rw (le-ltb capacity n h) refl

pub beyond_capacity : (n capacity : ℕ) → capacity < n → dimension_test n capacity ≡ some (refused 1)
unfolding dimension_test
beyond_capacity n capacity h = rw (lt-ltb capacity n h) refl

-- a card that has passed is held to the capacity
pub last_test : (capacity l u : ℕ) (card : List ℕ) → size_tests capacity l u ≡ none → card_tests card ≡ none → read_tests capacity l u card ≡ dimension_test (reading card).state.n capacity
unfolding read_tests
last_test capacity l u card size passed = rw (size, passed) refl

dimension_last : (capacity l u : ℕ) (card : List ℕ) → size_tests capacity l u ≡ none → card_tests card ≡ none → capacity < (reading card).state.n
    → read_tests capacity l u card ≡ some (refused 1)
dimension_last capacity l u card size passed h = last_test capacity l u card size passed ∙ beyond_capacity _ capacity h

dimension_passed : (n capacity : ℕ) → dimension_test n capacity ≡ none → n ≤ capacity
unfolding dimension_test
dimension_passed n capacity e = ltb-false capacity n (is_false (ltb capacity n) (refuse_if_none (ltb capacity n) 1 e))

read_passed : (capacity l u : ℕ) (card : List ℕ) → read_tests capacity l u card ≡ none
    → (size_tests capacity l u ≡ none) × (card_tests card ≡ none) × ((reading card).state.n ≤ capacity)
unfolding read_tests
read_passed capacity l u card e =
    let o = or_else_none (size_tests capacity l u) _ e in
    let p = or_else_none (card_tests card) _ o.1 in
    (o.0, p.0, dimension_passed (reading card).state.n capacity p.1)

passes_read : (capacity l u : ℕ) (card : List ℕ) → (size_tests capacity l u ≡ none) × (card_tests card ≡ none) × ((reading card).state.n ≤ capacity)
    → read_tests capacity l u card ≡ none
passes_read capacity l u card h = last_test capacity l u card h.0 h.1 ∙ within_capacity _ capacity h.2

-- what the reader stores is what the card stands for
held_read : {capacity : ℕ} {l u : List Float} {card : List ℕ} {l' u' : List Float} {answer : CardAnswer StateValue} → CardRead capacity l u card l' u' answer
    → read_tests capacity (length l) (length u) card ≡ none
    → AgreeCounted (reading card) (held (state_value (reading card).state.n capacity (reading card).counter) l' u')
held_read r passed = record { state = agree_sym (r.factors passed); counter = refl }

is_writing : (capacity : ℕ) (l u : List Float) (card : List ℕ) (l' u' : List Float) (v : StateValue) → AreBytes card → CardRead capacity l u card l' u' (answered v)
    → card ≡ writing (held v l' u')
is_writing capacity l u card l' u' v fit r =
    let a = answered_under (read_tests capacity (length l) (length u) card) _ v r.answered in
    let passed = (read_passed capacity (length l) (length u) card a.0).1 in
    let agree = held_read r a.0 in
    (card_laws.is_writing card fit passed).0
    ∙ card_laws.same_bytes (reading card) (held (state_value (reading card).state.n capacity (reading card).counter) l' u')
    (record { state = agree.state; counter = ap capped agree.counter })
    ∙ ap (λ (w : StateValue). writing (held w l' u')) (sym a.1)

rest_stands : (capacity : ℕ) (l u : List Float) (card : List ℕ) (l' u' : List Float) (v : StateValue) → CardRead capacity l u card l' u' (answered v)
    → Kept doubles (LPlace capacity v.n) l l' × Kept doubles (UPlace capacity v.n) u u'
rest_stands capacity l u card l' u' v r =
    let a = answered_under (read_tests capacity (length l) (length u) card) _ v r.answered in
    let n : (reading card).state.n ≡ v.n = ap (λ (w : StateValue). w.n) (sym a.1) in
    (subst (λ (m : ℕ). Kept doubles (LPlace capacity m) l l') n (r.l_kept a.0), subst (λ (m : ℕ). Kept doubles (UPlace capacity m) u u') n (r.u_kept a.0))

read_refused : (capacity : ℕ) (l u : List Float) (card : List ℕ) (l' u' : List Float) (a : Answer) → CardRead capacity l u card l' u' (not_answered a) → (l' ≡ l) × (u' ≡ u)
read_refused capacity l u card l' u' a r = let b = refused_under (read_tests capacity (length l) (length u) card) _ a r.answered in r.untouched b.0 b.1

pub read_back : (v : StateValue) (l u : List Float) (bytes : List ℕ) → Wrote v l u bytes → (capacity : ℕ) (m k m' k' : List Float) (answer : CardAnswer StateValue) → v.n ≤ capacity
    → size_tests capacity (length m) (length k) ≡ none → CardRead capacity m k bytes m' k' answer
    → (answer ≡ answered (state_value v.n capacity (capped v.counter)))
    × AgreeCounted (as_counted (held v l u)) (held (state_value v.n capacity (capped v.counter)) m' k')
read_back v l u bytes w capacity m k m' k' answer within size r =
    let S = held v l u in
    let is = wrote_writing w in
    let passed : card_tests bytes ≡ none = ap card_tests is ∙ card_laws.accepted S (writable w) in
    let back : AgreeCounted (as_counted S) (reading bytes) = subst (λ (xs : List ℕ). AgreeCounted (as_counted S) (reading xs)) (sym is) (card_laws.read_back S (writable w)) in
    let tests : read_tests capacity (length m) (length k) bytes ≡ none =
    last_test capacity (length m) (length k) bytes size passed ∙ within_capacity (reading bytes).state.n capacity (omega (arith, back.state.n)) in
    let state : state_value (reading bytes).state.n capacity (reading bytes).counter ≡ state_value v.n capacity (capped v.counter) =
    λ i. state_value (sym back.state.n i) capacity (sym back.counter i) in (
      r.answered ∙ ap (λ (o : Option Answer). answer_under o (state_value (reading bytes).state.n capacity (reading bytes).counter)) tests ∙ ap answered state,
      agree_counted_trans back (subst (λ (x : StateValue). AgreeCounted (reading bytes) (held x m' k')) state (held_read r tests)),
    )

pub card_demands : CardDemands
card_demands = record {
  written = λ v l u card. (write_passed v l u card, passes_write v l u card);
  wrote = λ v l u bytes w. wrote_writing w;
  nothing_beyond = nothing_beyond;
  write_refused = write_refused;
  one_writing = one_writing;
  readable = λ capacity l u card. (read_passed capacity l u card, passes_read capacity l u card);
  is_writing = is_writing;
  read_back = read_back;
  rest_stands = rest_stands;
  read_refused = read_refused;
  dimension_last = dimension_last;
}
