-- The counter over lists of calls: counting changes nothing else, and a larger figure counts as 999,999 however many calls follow.
use mathlib.Core.Path.{◌≡◌, refl}
use mathlib.Core.Bool.{Bool, true, false, cond}
use mathlib.Core.List.{List, [], ◌∷◌}
use mathlib.Core.Option.{Option, none, some}
use Prim.Native.Nat.{ℕ, ◌+◌}
use native.Mathlib.Omega.{arith}
use Rattle.numbers.specs.NumberForm.{NumberForm}
use Rattle.machine.specs.Tables.{State}
use Rattle.machine.specs.Calls.{Call, Answer, Result, is_update}
use Rattle.machine.specs.Machine.{refusal, step, run}
use Rattle.machine.specs.Counts.{count}
use Rattle.machine.specs.Counter.{capped, counter_under, CountedState, CountedResult, after_counted, figures_of, counted_step, counted_run}

-- what each call leaves, without numbers and counters
abbrev pub results_of : {A : Type 0} → List (CountedResult A) → List (Result A)
results_of [] = []
results_of (r ∷ rs) = r.result ∷ results_of rs

pub counted_run_is_run : (N : NumberForm) (E T : N.Value) (S : CountedState N.Value) (cs : List (Call N.Value)) → results_of (counted_run N E T S cs) ≡ run N E T S.state cs
unfolding counted_run counted_step run
counted_run_is_run N E T S [] = refl
counted_run_is_run N E T S (c ∷ cs) = λ i. (counted_step N E T S c).result ∷ counted_run_is_run N E T (after_counted (counted_step N E T S c)) cs i

alike_by_kind : (b : Bool) (k k' m : ℕ) → capped k ≡ capped k' → capped (cond b (capped (k + m)) k) ≡ capped (cond b (capped (k' + m)) k')
alike_by_kind true k k' m h = omega arith
alike_by_kind false k k' m h = h

counters_alike : {A : Type 0} (o : Option Answer) (c : Call A) (k k' m : ℕ) → capped k ≡ capped k' → capped (counter_under o c k m) ≡ capped (counter_under o c k' m)
counters_alike none c k k' m h = alike_by_kind (is_update c) k k' m h
counters_alike (some a) c k k' m h = h

-- From two figures that count as the same, say one beyond 999,999 and 999,999 itself, every list of calls gives the same.
pub figures_alike : (N : NumberForm) (E T : N.Value) (S : State N.Value) (k k' : ℕ) (cs : List (Call N.Value)) → capped k ≡ capped k'
    → figures_of (counted_run N E T (record { state = S; counter = k }) cs) ≡ figures_of (counted_run N E T (record { state = S; counter = k' }) cs)
unfolding counted_run counted_step
figures_alike N E T S k k' [] h = refl
figures_alike N E T S k k' (c ∷ cs) h =
    let m = count N E T S c in
    let now = counters_alike (refusal N S c) c k k' m h in
    let later = figures_alike N E T (step N E T S c).after (counter_under (refusal N S c) c k m) (counter_under (refusal N S c) c k' m) cs now in
    λ i. record { result = step N E T S c; steps = m; counter = now i } ∷ later i
