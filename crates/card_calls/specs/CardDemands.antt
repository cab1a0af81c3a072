-- What request (b) asks of the writer and the reader together: one writing for each state, and that a card is read back.
use Rattle.std.specs.Prelude.{◌≡◌, ◌↔◌, List, ℕ, ◌≤◌, ◌<◌, length, take, drop, Float}
use Rattle.std.proofs.Math.Option.{none, some}
use Rattle.machine.specs.Calls.{Answer, refused}
use Rattle.machine.specs.Counter.{capped, as_counted}
use Rattle.machine.specs.Agreement.{AgreeCounted}
use Rattle.storage.specs.Places.{LPlace, UPlace}
use Rattle.storage.specs.Views.{Kept}
use Rattle.managed.specs.Instance.{StateValue, state_value}
use Rattle.managed.specs.Refusals.{size_tests, storage_tests}
use Rattle.card_format.specs.Writing.{card_length, writing}
use Rattle.card_format.specs.Reading.{card_tests, reading}
use Rattle.card_format.specs.Answers.{CardAnswer, answered, not_answered}
use Rattle.card_format.specs.CardLaws.{AreBytes}
use Rattle.card_calls.specs.CardCalls.{doubles, AreDoubles, held, write_tests, read_tests, CardWritten, CardRead}

-- a call of the writer that was carried out: the bytes that it wrote
pub record Wrote (v : StateValue) (l u : List Float) (bytes : List ℕ) : Type 0 where
  -- as every slice of doubles does
  pub l_holds : AreDoubles l
  pub u_holds : AreDoubles u
  pub old : List ℕ
  pub new : List ℕ
  pub answer : CardAnswer ℕ
  pub outcome : CardWritten v l u old new answer
  pub passed : write_tests v (length l) (length u) (length old) ≡ none
  pub is_beginning : bytes ≡ take (card_length v.n) new

pub record CardDemands : Type 0 where
  -- The writer is refused nothing exactly where its storage passes and the buffer is at least as long as the writing.
  pub written : (v : StateValue) (l u card : ℕ) → (write_tests v l u card ≡ none) ↔ ((storage_tests v.n v.capacity l u ≡ none) × (card_length v.n ≤ card))
  -- What it wrote is the writing, and nothing beyond is touched; a refusal writes nothing.
  pub wrote : (v : StateValue) (l u : List Float) (bytes : List ℕ) → Wrote v l u bytes → bytes ≡ writing (held v l u)
  pub nothing_beyond : (v : StateValue) (l u : List Float) (old new : List ℕ) (k : ℕ) → CardWritten v l u old new (answered k)
      → (k ≡ card_length v.n) × (k ≤ length old) × (drop k new ≡ drop k old)
  pub write_refused : (v : StateValue) (l u : List Float) (old new : List ℕ) (a : Answer) → CardWritten v l u old new (not_answered a) → new ≡ old
  -- One state, NaNs alike, has exactly one writing: equal dimensions, active entries and counters, as they count, give equal bytes, at any capacities and whatever
  -- else the storages hold, and no others do.
  pub one_writing : (v v' : StateValue) (l u l' u' : List Float) (bytes bytes' : List ℕ) → Wrote v l u bytes → Wrote v' l' u' bytes'
      → AgreeCounted (as_counted (held v l u)) (as_counted (held v' l' u')) ↔ (bytes ≡ bytes')
  -- The reader is refused nothing exactly where its storage and the card pass, and the card's dimension is at most the capacity.
  pub readable : (capacity l u : ℕ) (card : List ℕ)
      → (read_tests capacity l u card ≡ none) ↔ ((size_tests capacity l u ≡ none) × (card_tests card ≡ none) × ((reading card).state.n ≤ capacity))
  -- Every card that the reader accepts is, byte for byte, the writing of the state that it hands back.
  pub is_writing : (capacity : ℕ) (l u : List Float) (card : List ℕ) (l' u' : List Float) (v : StateValue) → AreBytes card → CardRead capacity l u card l' u' (answered v)
      → card ≡ writing (held v l' u')
  -- Reading a writing gives the state, at every capacity that suffices.
  pub read_back : (v : StateValue) (l u : List Float) (bytes : List ℕ) → Wrote v l u bytes → (capacity : ℕ) (l₂ u₂ l₂' u₂' : List Float) (answer : CardAnswer StateValue) → v.n ≤ capacity
      → size_tests capacity (length l₂) (length u₂) ≡ none → CardRead capacity l₂ u₂ bytes l₂' u₂' answer
      → (answer ≡ answered (state_value v.n capacity (capped v.counter)))
      × AgreeCounted (as_counted (held v l u)) (held (state_value v.n capacity (capped v.counter)) l₂' u₂')
  -- It sets the active entries alone, and a refusal writes nothing.
  pub rest_stands : (capacity : ℕ) (l u : List Float) (card : List ℕ) (l' u' : List Float) (v : StateValue) → CardRead capacity l u card l' u' (answered v)
      → Kept doubles (LPlace capacity v.n) l l' × Kept doubles (UPlace capacity v.n) u u'
  pub read_refused : (capacity : ℕ) (l u : List Float) (card : List ℕ) (l' u' : List Float) (a : Answer) → CardRead capacity l u card l' u' (not_answered a) → (l' ≡ l) × (u' ≡ u)
  -- A card that has passed is held to the capacity: 1 where its dimension exceeds it.
  pub dimension_last : (capacity l u : ℕ) (card : List ℕ) → size_tests capacity l u ≡ none → card_tests card ≡ none → capacity < (reading card).state.n
      → read_tests capacity l u card ≡ some (refused 1)
