-- The outcome of a managed call, whole: what the contracts of all six calls say, and what demand 3 takes a call to be.
use Rattle.std.specs.Prelude.{◌≡◌, Bool, true, false, List, ℕ, max}
use Rattle.std.proofs.Math.Option.{none, some}
use Rattle.numbers.specs.NumberForm.{NumberForm}
use Rattle.machine.specs.Tables.{State}
use Rattle.machine.specs.Calls.{Call, Answer, Result, is_update}
use Rattle.machine.specs.Machine.{step_under}
use Rattle.machine.specs.Counts.{count_under}
use Rattle.machine.specs.Agreement.{Same}
use Rattle.machine.specs.Counter.{counter_under}
use Rattle.storage.specs.Places.{WorkPlace}
use Rattle.storage.specs.Views.{Kept}
use Rattle.storage.specs.Updated.{UpdateFrame}
use Rattle.managed.specs.Instance.{Instance, view}
use Rattle.managed.specs.Refusals.{refusal_at}

-- What a call reports: its answer, the right-hand side as it leaves it ([] for an update), and the number of its pair steps (0 for a solve, which answers none)
pub record Report (A : Type 0) : Type 0 where
  pub answer : Answer
  pub solved : List A
  pub steps : ℕ

module _ {A : Type 0} where
  abbrev pub report : Answer → List A → ℕ → Report A
  report a b k = record { answer = a; solved = b; steps = k }

  -- with the state that it leaves
  abbrev pub result_of : Report A → State A → Result A
  result_of r S = record { answer = r.answer; solved = r.solved; after = S }

module _ (N : NumberForm) where
  open N use {Value}

  -- Solve work below n is free after a solve. Everything else is unchanged.
  pub record SolveFrame (s t : Instance Value) : Type 0 where
    pub l : Kept N (WorkPlace s.c s.n) s.l t.l
    pub u : t.u ≡ s.u
    pub y : t.y ≡ s.y
    pub z : t.z ≡ s.z
    pub w : t.w ≡ s.w

  -- After an accepted update, workspace entries below the larger dimension are free, and so are the row and column dropped by remove. Everything else
  -- outside the active entries is unchanged.
  abbrev pub Frame : Bool → Instance Value → Instance Value → Type 0
  Frame true s t = UpdateFrame N s.c (max s.n t.n) s.l s.u s.y s.z s.w t.l t.u t.y t.z t.w
  Frame false s t = SolveFrame s t

module _ (N : NumberForm) (E T : N.Value) where
  open N use {Value}

  -- The call c takes the instance s to t, and reports r.
  pub record Outcome (c : Call Value) (s t : Instance Value) (r : Report Value) : Type 0 where
    -- answer, solved vector, dimension and active factors are those of the machine's step, under the refusal that the storage gives
    pub result : Same (result_of r (view N t)) (step_under N E T (refusal_at N s c) (view N s) c)
    -- the number is that of the machine, and 0 for a refused call
    pub steps : r.steps ≡ count_under N E T (refusal_at N s c) (view N s) c
    pub capacity : t.c ≡ s.c
    -- an accepted update adds it to the counter, which stops at 999,999; a solve and a refused call leave the counter
    pub counter : t.counter ≡ counter_under (refusal_at N s c) c s.counter r.steps
    -- refusals write nothing anywhere
    pub untouched : (a : Answer) → refusal_at N s c ≡ some a → t ≡ s
    -- an accepted call leaves all but the active entries and the scratch
    pub frame : refusal_at N s c ≡ none → Frame N (is_update c) s t
