-- Document 02 (a), which buffer was short: each of the numbers 3, 13 and 14 is given exactly where its buffer is wrong and all that is tested before it is right.
use Rattle.std.specs.Prelude.{◌≡◌, Bool, false, ◌↔◌, ℕ, ◌≤◌, ◌<◌, T as So, Float}
use Rattle.std.specs.Float.{Format}
use Rattle.machine.specs.Calls.{Call, number_of, refusal_number, is_update}
use Rattle.storage.specs.Places.{l_length, u_length, overflows}
use Rattle.managed.specs.declared.LentLengths.{LentLengths}
use Rattle.managed.specs.Instance.{Instance, lengths_of}
use Rattle.managed.specs.Refusals.{storage_tests, storage_alone}
use Rattle.managed.specs.Outcome.{Report}
use Rattle.managed.specs.Demands.{ManagedOutcome}

-- neither 1 nor 2: the dimension is within the capacity, and the lengths for it fit usize
abbrev pub SizesAgree : ℕ → ℕ → Type 0
SizesAgree n c = (n ≤ c) × (overflows c ≡ false)

-- L is the first that is wrong: it is too short, whatever the others are
abbrev pub ShortL : ℕ → ℕ → LentLengths → Type 0
ShortL n c lent = SizesAgree n c × (lent.l < l_length c)

-- U is: it is too short, and L is not
abbrev pub ShortU : ℕ → ℕ → LentLengths → Type 0
ShortU n c lent = SizesAgree n c × (l_length c ≤ lent.l) × (lent.u < u_length c)

-- the workspaces are: their lengths are not all equal, and L and U are long enough
abbrev pub UnequalWorkspaces : ℕ → ℕ → LentLengths → Type 0
UnequalWorkspaces n c lent = SizesAgree n c × (l_length c ≤ lent.l) × (u_length c ≤ lent.u) × ¬ ((lent.y ≡ lent.z) × (lent.y ≡ lent.w))

-- What a number says of the lengths that were lent at dimension n and capacity c, with workspaces among them where the call is an update
pub record BufferNamed (update : Bool) (n c : ℕ) (lent : LentLengths) (number : ℕ) : Type 0 where
  -- 3 means L alone
  pub L : (number ≡ 3) ↔ ShortL n c lent
  -- 13 when U is too short, tested right after L
  pub U : (number ≡ 13) ↔ ShortU n c lent
  -- 14 when the workspaces have unequal lengths, tested after 13; no solve gives it, and neither adoption nor ready
  pub workspaces : (number ≡ 14) ↔ (So update × UnequalWorkspaces n c lent)

pub record WhichBuffer (F : Format) : Type 0 where
  -- the six calls, whatever they do and however they are refused
  pub calls : (c : Call Float) (s t : Instance Float) (r : Report Float) → ManagedOutcome F c s t r → BufferNamed (is_update c) s.n s.c (lengths_of s) (number_of r.answer)
  -- adoption and ready, whose number is that of the storage tests, 0 where these pass
  pub storage : (n c l u : ℕ) → BufferNamed false n c (storage_alone l u) (refusal_number (storage_tests n c l u))
