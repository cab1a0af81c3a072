-- The counter of pair steps, and the plain machine with it: its state with a counter, one step, and a run of a list of calls. Below stand computed lines.
use Rattle.std.specs.Prelude.{◌≡◌, refl, cond, List, [], ◌∷◌, ℕ, ◌+◌, min, Float}
use Rattle.std.proofs.Math.Option.{Option, none, some}
use Rattle.std.specs.Float.{binary64}
use Rattle.numbers.specs.NumberForm.{NumberForm, ieee, whole}
use Rattle.numbers.specs.Tolerances.{managed_epsilon, managed_tiny}
use Rattle.machine.specs.Tables.{State}
use Rattle.machine.specs.Calls.{Call, push, replace_row, replace_column, remove, solve, Answer, Result, is_update}
use Rattle.machine.specs.Machine.{refusal, step}
use Rattle.machine.specs.BenchStates.{empty, single, P}
use Rattle.machine.specs.Counts.{count, pair_steps}

-- The counter stops at 999,999, and a larger figure handed in counts as 999,999.
abbrev pub capped : ℕ → ℕ
capped k = min k 999999

-- An update that is carried out adds its m pair steps to the counter k; a solve leaves it.
abbrev pub counter_after : {A : Type 0} → Call A → ℕ → ℕ → ℕ
counter_after c k m = cond (is_update c) (capped (k + m)) k

-- a call under a refusal: a refused one leaves it
abbrev pub counter_under : {A : Type 0} → Option Answer → Call A → ℕ → ℕ → ℕ
counter_under none c k m = counter_after c k m
counter_under (some a) c k m = k

-- a state of the machine with its counter
pub record CountedState (A : Type 0) : Type 0 where
  pub state : State A
  pub counter : ℕ

-- what a call leaves, how many pair steps it made, and the counter after it
pub record CountedResult (A : Type 0) : Type 0 where
  pub result : Result A
  pub steps : ℕ
  pub counter : ℕ

abbrev pub after_counted : {A : Type 0} → CountedResult A → CountedState A
after_counted r = record { state = r.result.after; counter = r.counter }

-- a state, and what each call leaves, with the figure that the counter counts as
abbrev pub as_counted : {A : Type 0} → CountedState A → CountedState A
as_counted S = record { state = S.state; counter = capped S.counter }

abbrev pub figures_of : {A : Type 0} → List (CountedResult A) → List (CountedResult A)
figures_of [] = []
figures_of (r ∷ rs) = record { result = r.result; steps = r.steps; counter = capped r.counter } ∷ figures_of rs

module _ (N : NumberForm) (E T : N.Value) where
  open N use {Value}

  -- the machine's step, its pair steps, and the counter with them
  unfoldable pub counted_step : CountedState Value → Call Value → CountedResult Value
  counted_step S c = record {
    result = step N E T S.state c;
    steps = count N E T S.state c;
    counter = counter_under (refusal N S.state c) c S.counter (count N E T S.state c);
  }

  -- what each call of a list leaves
  unfoldable pub counted_run : CountedState Value → List (Call Value) → List (CountedResult Value)
  counted_run S [] = []
  counted_run S (c ∷ cs) = counted_step S c ∷ counted_run (after_counted (counted_step S c)) cs

-- ---- computed

-- the counter after a call of the machine whose counter was k
counter_from : ℕ → State Float → Call Float → ℕ
unfolding counted_step pair_steps
counter_from k S c = (counted_step (ieee binary64) (managed_epsilon binary64) (managed_tiny binary64) (record { state = S; counter = k }) c).counter

-- a push that makes one pair step from dimension 1, and is refused from dimension 2
one : Call Float
one = push (whole 4 ∷ []) (whole 6 ∷ []) (whole 1)

solving : Call Float
solving = solve (whole 8 ∷ whole 5 ∷ [])

pub record CounterTable : Type 0 where
  -- each update adds its pair steps, here one
  push_added : counter_from 5 (single (whole 2)) one ≡ 6
  row_added : counter_from 5 P (replace_row 0 (whole 1 ∷ whole 1 ∷ [])) ≡ 6
  column_added : counter_from 5 P (replace_column 0 (whole 1 ∷ whole 8 ∷ [])) ≡ 6
  remove_added : counter_from 5 P (remove 1 1) ≡ 6
  -- it stops at 999,999, and a larger figure counts as that, also where no pair step is made
  reached : counter_from 999998 (single (whole 2)) one ≡ 999999
  stopped : counter_from 999999 (single (whole 2)) one ≡ 999999
  larger : counter_from 1000000 (single (whole 2)) one ≡ 999999
  larger_none_added : counter_from 1000000 empty (push [] [] (whole 2)) ≡ 999999
  -- a solve and a refused call leave it, whatever it is
  solve_leaves : counter_from 5 P solving ≡ 5
  refused_leaves : counter_from 5 P one ≡ 5
  solve_leaves_larger : counter_from 1000000 P solving ≡ 1000000
  refused_leaves_larger : counter_from 1000000 P one ≡ 1000000

pub counter_table : CounterTable
unfolding counter_from one solving empty single P
counter_table = record {
  push_added = refl;
  row_added = refl;
  column_added = refl;
  remove_added = refl;
  reached = refl;
  stopped = refl;
  larger = refl;
  larger_none_added = refl;
  solve_leaves = refl;
  refused_leaves = refl;
  solve_leaves_larger = refl;
  refused_leaves_larger = refl;
}
