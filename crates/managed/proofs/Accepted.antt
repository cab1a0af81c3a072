-- What an outcome says of an accepted call: it is the machine's, the dimension stays within the capacity, an update leaves the solve work and the buffers'
-- ends, and a solve leaves the factors.
use mathlib.Core.Path.{◌≡◌, ap, ◌∙◌, subst}
use mathlib.Core.Bool.{Bool, true, false}
use mathlib.Core.Option.{Option, none}
use Prim.Native.Nat.{ℕ, ◌*◌, ◌≤◌, ◌<◌, max}
use native.Mathlib.Omega.{arith}
use lib.ListN.{get_or}
use Rattle.numbers.specs.NumberForm.{NumberForm}
use Rattle.machine.specs.Calls.{Call, Answer, number_of, is_update}
use Rattle.machine.specs.Machine.{accepted, step_under}
use Rattle.machine.specs.Agreement.{Same}
use Rattle.machine.proofs.Numbered.{accepted_is_0}
use Rattle.storage.specs.Places.{u_length, l_index}
use Rattle.storage.specs.Views.{view_l}
use Rattle.storage.proofs.Places.{l_index_not_work}
use Rattle.storage.proofs.Frames.{frame_leaves_L, frame_leaves_U}
use Rattle.managed.specs.Instance.{Instance, view}
use Rattle.managed.specs.Refusals.{refusal_at}
use Rattle.managed.specs.Outcome.{Report, result_of, Frame, Outcome}
use Rattle.managed.proofs.Refusals.{reached_within}
use Rattle.managed.proofs.ListClaim.{accepted_grows}

module _ (N : NumberForm) (E T : N.Value) {c : Call N.Value} {s t : Instance N.Value} {r : Report N.Value} (o : Outcome N E T c s t r)
    (e : refusal_at N s c ≡ none) where
  open N use {absent}

  pub accepted_same : Same (result_of r (view N t)) (accepted N E T (view N s) c)
  unfolding step_under
  accepted_same = subst (λ (p : Option Answer). Same (result_of r (view N t)) (step_under N E T p (view N s) c)) e o.result

  -- the answer of an accepted call is 0
  pub accepted_number : number_of r.answer ≡ 0
  accepted_number = ap number_of accepted_same.answer ∙ accepted_is_0 N E T (view N s) c

  pub dimension_within : max s.n t.n ≤ s.c
  dimension_within = omega (arith, accepted_same.after.n, accepted_grows N E T (view N s) c, reached_within N s c e)

  -- ---- an update

  module _ (update : is_update c ≡ true) where
    framed : Frame N true s t
    framed = subst (λ (p : Bool). Frame N p s t) update (o.frame e)

    pub update_leaves_L : (q : ℕ) → s.c * s.c ≤ q → get_or t.l q absent ≡ get_or s.l q absent
    update_leaves_L = frame_leaves_L N s.c _ framed (omega (arith, dimension_within))

    pub update_leaves_U : (q : ℕ) → u_length s.c ≤ q → get_or t.u q absent ≡ get_or s.u q absent
    update_leaves_U = frame_leaves_U N s.c _ framed (omega (arith, dimension_within))

  -- ---- a solve

  module _ (solves : is_update c ≡ false) where
    pub solve_leaves_U : t.u ≡ s.u
    solve_leaves_U = (subst (λ (p : Bool). Frame N p s t) solves (o.frame e)).u

    pub solve_leaves_L : (i j : ℕ) → i < s.n → j < s.n → view_l N s.c t.l i j ≡ view_l N s.c s.l i j
    solve_leaves_L i j hi hj =
        let f = subst (λ (p : Bool). Frame N p s t) solves (o.frame e) in
        f.l.same (l_index s.c i j)
        (λ p. l_index_not_work s.c i j p.0 (omega (arith, dimension_within)) (omega (arith, dimension_within)) p.2)
