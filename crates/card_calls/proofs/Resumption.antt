-- Every session that goes on from a card gives what the unbroken one would have given.
use mathlib.Core.Path.{ap}
use mathlib.Core.List.{◌++◌}
use Prim.Native.Nat.{◌+◌, ◌≤◌}
use native.Mathlib.Omega.{arith}
use lib.Ieee.{binary64}
use Rattle.numbers.specs.Tolerances.{managed_epsilon, managed_tiny}
use Rattle.machine.specs.Counter.{capped, as_counted}
use Rattle.machine.specs.Agreement.{AgreeCounted}
use Rattle.machine.proofs.Choice.{agree_counted_trans}
use Rattle.managed.specs.Instance.{state_value}
use Rattle.managed.specs.Lists.{pushes}
use Rattle.card_calls.specs.CardCalls.{doubles, held}
use Rattle.card_calls.specs.Sessions.{left_by, Resumption}
use Rattle.card_calls.proofs.CardDemands.{read_back}
use Rattle.card_calls.proofs.Sessions.{left_within, machine_same, unbroken_same}

pub resumption : Resumption
resumption cs₁ cs₂ S S₁ capacity₁ capacity₂ es₁ es₂ r =
    let E = managed_epsilon binary64 in
    let T = managed_tiny binary64 in
    let room = S.state.n + pushes (cs₁ ++ cs₂) in
    let all : S.state.n + pushes (cs₁ ++ cs₂) ≤ room = omega arith in
    let within = left_within doubles E T capacity₁ room S S₁ cs₁ cs₂ es₁ r.start all r.room₁ r.trace₁ in
    let back = read_back r.v r.l r.u r.card r.wrote capacity₂ r.l₂ r.u₂ r.l₂' r.u₂' r.answer (omega (arith, within, r.resumes.state.n, r.room₂)) r.lends r.outcome in
    let w = state_value r.v.n capacity₂ (capped r.v.counter) in
    let R = held w r.l₂' r.u₂' in
    let resumes : AgreeCounted (as_counted (left_by doubles S₁ es₁)) R =
    agree_counted_trans (record { state = r.resumes.state; counter = ap capped r.resumes.counter }) back.1 in
    record {
      accepted = (w, back.0);
      machine = machine_same doubles E T capacity₁ room S S₁ cs₁ cs₂ es₁ r.start all r.room₁ r.trace₁ capacity₂ R es₂ r.room₂ resumes (r.trace₂ w back.0);
      unbroken = unbroken_same doubles E T capacity₁ room S S₁ cs₁ cs₂ es₁ r.start all r.room₁ r.trace₁ capacity₂ R es₂ r.room₂ resumes (r.trace₂ w back.0);
    }
