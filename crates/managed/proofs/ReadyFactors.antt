-- What document 02 (d) says of ready holds, at every format.
use mathlib.Core.Path.{◌≡◌, refl, sym, ap, ◌∙◌}
use mathlib.Core.Bool.{Bool, true, false, true≢false, false≢true}
use mathlib.Core.List.{List, [], ◌∷◌}
use mathlib.Core.Option.{Option, none, some}
use Prim.Native.Nat.{ℕ}
use lib.Ieee.{Format}
use lib.ListN.{length}
use Rattle.std.proofs.lemmas.Bool.{false_from_ne_true}
use Rattle.numbers.specs.NumberForm.{NumberForm, ieee}
use Rattle.numbers.specs.Tolerances.{managed_epsilon, managed_tiny}
use Rattle.machine.specs.Calls.{Answer}
use Rattle.machine.specs.Counter.{CountedResult, counted_run}
use Rattle.machine.specs.Readiness.{is_ready}
use Rattle.machine.proofs.Readiness.{ready_exactly, ready_agrees}
use Rattle.storage.specs.Views.{state_at}
use Rattle.managed.specs.StorageAnswers.{ReadyAnswer, answered, not_answered, ready_under}
use Rattle.managed.specs.Lists.{AllSame, results}
use Rattle.managed.specs.ReadyFactors.{ReadyDemand, ready_after, ReadyFactors}
use Rattle.managed.proofs.Refused.{storage_numbered}
use Rattle.managed.proofs.Demands.{demand_1, demand_3}

-- ---- the answer

is_answered : ReadyAnswer → Bool
is_answered (answered b) = true
is_answered (not_answered a) = false

is_yes : ReadyAnswer → Bool
is_yes (answered b) = b
is_yes (not_answered a) = false

-- what is answered was refused nothing
answered_only : (o : Option Answer) (b x : Bool) → ready_under o b ≡ answered x → (o ≡ none) × (b ≡ x)
unfolding is_answered is_yes
answered_only none b x e = (refl, ap is_yes e)
answered_only (some a) b x e = absurd (false≢true (ap is_answered e))

module _ (N : NumberForm) where
  open N use {Value}

  pub ready_demand : (n c : ℕ) (l u : List Value) → ReadyDemand N n c l u
  ready_demand n c l u =
      let S = state_at N c n l u in
      let exactly = ready_exactly N S in
      record {
        refused = λ a e. (ap (λ (o : Option Answer). ready_under o (is_ready N S)) e, storage_numbered n c (length l) (length u) a e);
        yes = (
          λ e. let p = answered_only _ _ _ e in (p.0, exactly.0 p.1),
          λ p. λ t. ready_under (p.0 t) (exactly.1 p.1 t),
        );
        no = (
          λ e. let p = answered_only _ _ _ e in (p.0, λ r. true≢false (sym (exactly.1 r) ∙ p.1)),
          λ p. λ t. ready_under (p.0 t) (false_from_ne_true (is_ready N S) (λ e. p.1 (exactly.0 e)) t),
        );
      }

  -- states that agree after each call are ready or not alike
  ready_alike : (as' bs : List (CountedResult Value)) → AllSame as' bs → ready_after N as' ≡ ready_after N bs
  ready_alike [] [] h = refl
  ready_alike [] (b ∷ bs) h = absurd h
  ready_alike (a ∷ as') [] h = absurd h
  ready_alike (a ∷ as') (b ∷ bs) h = λ t. ready_agrees N a.result.after b.result.after h.0.result.after t ∷ ready_alike as' bs h.1 t

module _ (F : Format) where
  pub ready_factors : ReadyFactors F
  ready_factors = record {
    demand = ready_demand (ieee F);
    active_alone = λ n c c' l u l' u' e agree. λ t. ready_under (e t) (ready_agrees (ieee F) _ _ agree t);
    no_solve_refused = λ v l u b e long.
        let p = (ready_demand (ieee F) v.n v.capacity l u).yes.0 e in
        (((demand_1 F).solve_refused v l u b p.0 long).accepted_if p.1.diagonal, ((demand_1 F).transpose_solve_refused v l u b p.0 long).accepted_if p.1.diagonal);
    lists = λ cs S S₁ S₂ capacity₁ capacity₂ es₁ es₂ setting.
        let claim = demand_3 F cs S S₁ S₂ capacity₁ capacity₂ es₁ es₂ setting in
        let alone = counted_run (ieee F) (managed_epsilon F) (managed_tiny F) S cs in
        (ready_alike (ieee F) alone (results (ieee F) es₁) claim.first, ready_alike (ieee F) alone (results (ieee F) es₂) claim.second);
  }
