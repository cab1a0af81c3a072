-- What an outcome says of the number of pair steps and of the counter.
use mathlib.Core.Path.{◌≡◌, refl, ap}
use mathlib.Core.Bool.{Bool, true, false}
use mathlib.Core.Option.{Option, none, some}
use Prim.Native.Nat.{ℕ, ◌≤◌}
use native.Mathlib.Omega.{arith}
use Rattle.numbers.specs.NumberForm.{NumberForm}
use Rattle.machine.specs.Calls.{Call, Answer, is_update}
use Rattle.machine.specs.Counts.{accepted_count, count_under, count_limit, count_most}
use Rattle.machine.specs.Counter.{counter_after, counter_under}
use Rattle.machine.proofs.CountLimits.{count_under_most, count_under_le}
use Rattle.managed.specs.Instance.{Instance, state_value, instance, view}
use Rattle.managed.specs.Refusals.{refusal_at}
use Rattle.managed.specs.Outcome.{Report, Frame, Outcome}

-- an instance with another counter
abbrev pub with_counter : {A : Type 0} → ℕ → Instance A → Instance A
with_counter m s = instance (state_value s.n s.c m) s.l s.u s.y s.z s.w

module _ (N : NumberForm) (E T : N.Value) {c : Call N.Value} {s t : Instance N.Value} {r : Report N.Value} (o : Outcome N E T c s t r) where
  -- at most n for push, 2 × (n − 1 − i) for replacing column i, 2 × (n − 1) for a row and 3 × (n − 1) for remove
  pub steps_at_most : r.steps ≤ count_limit s.n c
  steps_at_most = omega (arith, o.steps, count_under_le N E T (refusal_at N s c) (view N s) c)

  -- and the sharper limit
  pub steps_within_most : r.steps ≤ count_most s.n c
  steps_within_most = omega (arith, o.steps, count_under_most N E T (refusal_at N s c) (view N s) c)

  -- a call that is carried out answers the number of the machine's call, and an update adds it to the counter
  pub accepted_counted : refusal_at N s c ≡ none → (r.steps ≡ accepted_count N E T (view N s) c) × (t.counter ≡ counter_after c s.counter r.steps)
  unfolding count_under
  accepted_counted e = (rw e at o.steps, rw e at o.counter)

  -- a refused call answers 0 and leaves the counter
  pub refused_not_counted : (a : Answer) → refusal_at N s c ≡ some a → (r.steps ≡ 0) × (t.counter ≡ s.counter)
  unfolding count_under
  refused_not_counted a e = (rw e at o.steps, rw e at o.counter)

  -- A solve looks at no counter: what is so at one is so at every other.
  pub solve_at_any : is_update c ≡ false → (m : ℕ) → Outcome N E T c (with_counter m s) (with_counter m t) r
  unfolding refusal_at
  solve_at_any solves m = record {
    result = o.result;
    steps = o.steps;
    capacity = o.capacity;
    counter = left (refusal_at N s c);
    untouched = λ a e. ap (with_counter m) (o.untouched a e);
    frame = λ e. framed (is_update c) (o.frame e);
  }
    where
      left : (p : Option Answer) → m ≡ counter_under p c m r.steps
      left none = rw solves
      left (some a) = refl

      framed : (p : Bool) → Frame N p s t → Frame N p (with_counter m s) (with_counter m t)
      framed true f = f
      framed false f = record { l = f.l; u = f.u; y = f.y; z = f.z; w = f.w }
