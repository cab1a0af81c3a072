-- What the calls on cards return to a C host, and what each out-parameter holds afterwards.
use Rattle.std.specs.Prelude.{◌≡◌, List, ℕ, unwrap_or, Float}
use Rattle.machine.specs.Calls.{number_of}
use Rattle.managed.specs.Instance.{StateValue}
use Rattle.card_format.specs.Answers.{CardAnswer, answered, not_answered}
use Rattle.card_calls.specs.CardCalls.{CardWritten, CardRead}
use Rattle.cards.specs.Refusal.{block_of}

-- the number of bytes is written where nothing was refused
abbrev pub BytesReturned : CardAnswer ℕ → ℕ → ℕ → ℕ → Type 0
BytesReturned (answered k) bytes bytes' number = (number ≡ 0) × (bytes' ≡ k)
BytesReturned (not_answered a) bytes bytes' number = (number ≡ number_of a) × (bytes' ≡ bytes)

-- the block, which is written with 16 alone
abbrev pub block_after : CardAnswer StateValue → ℕ → ℕ
block_after (answered v) block = block
block_after (not_answered a) block = unwrap_or (block_of a) block

-- dimension and counter are written where nothing was refused
abbrev pub StateReturned : CardAnswer StateValue → (n counter n' counter' number : ℕ) → Type 0
StateReturned (answered v) n counter n' counter' number = (number ≡ 0) × (n' ≡ v.n) × (counter' ≡ v.counter)
StateReturned (not_answered a) n counter n' counter' number = (number ≡ number_of a) × (n' ≡ n) × (counter' ≡ counter)

-- the writer leaves the buffer as `new`
pub record WriteReturned (v : StateValue) (l u : List Float) (old new : List ℕ) (bytes bytes' number : ℕ) : Type 0 where
  pub answer : CardAnswer ℕ
  pub outcome : CardWritten v l u old new answer
  pub returned : BytesReturned answer bytes bytes' number

-- the reader leaves L as l' and U as u'
pub record ReadReturned (capacity : ℕ) (l u : List Float) (card : List ℕ) (l' u' : List Float) (n counter block n' counter' block' number : ℕ) : Type 0 where
  pub answer : CardAnswer StateValue
  pub outcome : CardRead capacity l u card l' u' answer
  pub returned : StateReturned answer n counter n' counter' number
  pub block_returned : block' ≡ block_after answer block
