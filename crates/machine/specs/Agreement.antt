-- What it is for two states, results or works to be the same wherever document 01 gives the entries a meaning.
use Rattle.std.specs.Prelude.{◌≡◌, ℕ, ◌≤◌, ◌<◌}
use Rattle.machine.specs.Tables.{State, Work}
use Rattle.machine.specs.Calls.{Result}
use Rattle.machine.specs.Counter.{CountedState, CountedResult}

-- one dimension and the same active entries
pub record Agree {A : Type 0} (S R : State A) : Type 0 where
  pub n : S.n ≡ R.n
  pub L : (i j : ℕ) → i < S.n → j < S.n → S.L i j ≡ R.L i j
  pub U : (i j : ℕ) → i ≤ j → j < S.n → S.U i j ≡ R.U i j

-- the same answer and solved vector, and states that agree
pub record Same {A : Type 0} (a b : Result A) : Type 0 where
  pub answer : a.answer ≡ b.answer
  pub solved : a.solved ≡ b.solved
  pub after : Agree a.after b.after

-- equal dimensions, active entries and counters
pub record AgreeCounted {A : Type 0} (S R : CountedState A) : Type 0 where
  pub state : Agree S.state R.state
  pub counter : S.counter ≡ R.counter

-- the same answer, number of pair steps and solved vector, and after the call the same dimension, active factors and counter
pub record SameCounted {A : Type 0} (a b : CountedResult A) : Type 0 where
  pub result : Same a.result b.result
  pub steps : a.steps ≡ b.steps
  pub counter : a.counter ≡ b.counter

-- The factors agree at dimension m, y from lo below hi, and v below k. What stands elsewhere is not compared: Backward starts with nothing of y, and
-- Forward needs nothing of v.
pub record AgreeWithin {A : Type 0} (m lo hi k : ℕ) (S R : Work A) : Type 0 where
  pub L : (i j : ℕ) → i < m → j < m → S.L i j ≡ R.L i j
  pub U : (i j : ℕ) → i ≤ j → j < m → S.U i j ≡ R.U i j
  pub y : (j : ℕ) → lo ≤ j → j < hi → S.y j ≡ R.y j
  pub v : (j : ℕ) → j < k → S.v j ≡ R.v j
