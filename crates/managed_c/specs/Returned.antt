-- What the managed calls that change no factor return to a C host, and what each out-parameter holds afterwards.
use Rattle.std.specs.Prelude.{◌≡◌, cond, List, ℕ, Float}
use Rattle.std.specs.Float.{Format}
use Rattle.machine.specs.Calls.{Call, Answer, number_of}
use Rattle.storage.specs.Lengths as storage
use Rattle.managed.specs.Instance.{state_value, lent_to_solve}
use Rattle.managed.specs.StorageAnswers.{ReadyAnswer, answered, not_answered}
use Rattle.answers.specs.Returned.{Returned}

-- A solve is handed no counter and makes no pair steps: this holds at every counter that the host keeps.
-- L is left as l' and the right-hand side as b.
abbrev pub SolveReturned : Format → Call Float → ℕ → ℕ → (l u l' b : List Float) → (Answer → Type 0) → ℕ → Type 0
SolveReturned F call n c l u l' b Out number =
    (counter : ℕ) → Returned F call (lent_to_solve (state_value n c counter) l u) (lent_to_solve (state_value n c counter) l' u) b 0 Out number

-- the lengths are written where nothing was refused: of L's and U's, before and afterwards
abbrev pub LengthsReturned : storage.LengthsAnswer → ℕ → ℕ → ℕ → ℕ → ℕ → Type 0
LengthsReturned (storage.lengths a b) l u l' u' number = (number ≡ 0) × (l' ≡ a) × (u' ≡ b)
LengthsReturned (storage.refused k) l u l' u' number = (number ≡ k) × (l' ≡ l) × (u' ≡ u)

-- 1 or 0 is written where nothing was refused
abbrev pub ReadyReturned : ReadyAnswer → ℕ → ℕ → ℕ → Type 0
ReadyReturned (answered yes_or_no) ready ready' number = (number ≡ 0) × (ready' ≡ cond yes_or_no 1 0)
ReadyReturned (not_answered a) ready ready' number = (number ≡ number_of a) × (ready' ≡ ready)
