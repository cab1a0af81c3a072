-- The laws of request (b): one state has exactly one writing, a writing is accepted and read back, an accepted card is the writing of the state that it stands
-- for, and damage to one word of one block is found and its block named.
use Rattle.std.specs.Prelude.{T as So, ◌≡◌, ◌≢◌, List, ◌⊎◌, ℕ, ◌+◌, ◌*◌, ◌^◌, ◌≤◌, ◌<◌, length, get_or, Float}
use Rattle.std.proofs.Math.Option.{none, some}
use Rattle.std.specs.Float.{binary64}
use Rattle.std.specs.Float.Ieee.{fits}
use Rattle.machine.specs.Calls.{Answer, refused_at}
use Rattle.machine.specs.Counter.{CountedState, as_counted}
use Rattle.machine.specs.Agreement.{AgreeCounted}
use Rattle.card_format.specs.Writing.{block_count, card_length, writing}
use Rattle.card_format.specs.Reading.{checked, wrong_check, card_tests, reading}

-- what a list of bytes is
abbrev pub AreBytes : List ℕ → Type 0
AreBytes bytes = (q : ℕ) → get_or bytes q 0 < 256

-- a state of doubles whose number of blocks has 64 bits
pub record Writable (S : CountedState Float) : Type 0 where
  pub count : block_count S.state.n < 2 ^ 64
  pub L : (i j : ℕ) → i < S.state.n → j < S.state.n → So (fits binary64 (S.state.L i j))
  pub U : (i j : ℕ) → i ≤ j → j < S.state.n → So (fits binary64 (S.state.U i j))

-- other bytes in the place of word k of block b, and all else equal
pub record Damaged (b k : ℕ) (old new : List ℕ) : Type 0 where
  pub long : length new ≡ length old
  pub elsewhere : (q : ℕ) → (q < 512 * b + 8 * k) ⊎ (512 * b + 8 * k + 8 ≤ q) → get_or new q 0 ≡ get_or old q 0
  pub place : ℕ
  pub within : place < 8
  pub changed : get_or new (512 * b + 8 * k + place) 0 ≢ get_or old (512 * b + 8 * k + place) 0

-- the answer a names a block below m whose check is wrong, and those before it are right
pub record Lowest (word : ℕ → ℕ → ℕ) (m : ℕ) (a : Answer) : Type 0 where
  pub block : ℕ
  pub within : block < m
  pub named : a ≡ refused_at 16 block
  pub wrong : ¬ So (checked word block)
  pub right_before : (i : ℕ) → i < block → So (checked word i)

pub record CardLaws : Type 0 where
  -- One state, NaNs alike, has exactly one writing: equal dimensions, active entries and counters, as they count, give equal bytes, and no others do.
  pub same_bytes : (S R : CountedState Float) → AgreeCounted (as_counted S) (as_counted R) → writing S ≡ writing R
  pub same_state : (S R : CountedState Float) → Writable S → Writable R → writing S ≡ writing R → AgreeCounted (as_counted S) (as_counted R)
  -- its bytes are as many as its dimension says, each below 256
  pub long : (S : CountedState Float) → (length (writing S) ≡ card_length S.state.n) × AreBytes (writing S)
  -- A writing, where its number of blocks has 64 bits, is accepted, and stands for the state.
  pub accepted : (S : CountedState Float) → Writable S → card_tests (writing S) ≡ none
  pub read_back : (S : CountedState Float) → Writable S → AgreeCounted (as_counted S) (reading (writing S))
  -- Every card that is accepted is, byte for byte, the writing of the state that it stands for.
  pub is_writing : (bytes : List ℕ) → AreBytes bytes → card_tests bytes ≡ none → (bytes ≡ writing (reading bytes)) × Writable (reading bytes)
  -- 16 names the lowest block whose check is wrong, and is given wherever there is one.
  pub lowest : (word : ℕ → ℕ → ℕ) (m : ℕ) (a : Answer) → wrong_check word m ≡ some a → Lowest word m a
  pub named : (word : ℕ → ℕ → ℕ) (m b : ℕ) → b < m → ((i : ℕ) → i < b → So (checked word i)) → ¬ So (checked word b) → wrong_check word m ≡ some (refused_at 16 b)
  -- Damage confined to one word of one block of an accepted card of any size, to the check word too, is refused with 16 and that block.
  pub damage : (old new : List ℕ) → AreBytes old → AreBytes new → card_tests old ≡ none → (b k : ℕ) → 512 * b < length old → k < 64 → Damaged b k old new
      → card_tests new ≡ some (refused_at 16 b)
