-- The border of a push, and Forward over it.
use mathlib.Core.Path.{◌≡◌, refl, sym, ap, ◌∙◌}
use mathlib.Core.List.{List, []}
use Prim.Native.Nat.{ℕ, suc, ◌-◌, ◌≤◌, ◌<◌}
use native.Mathlib.Omega.{arith}
use lib.Dec.{eqb, eqb→eq}
use lib.ListN.{length, set}
use lib.Seq.{get_or-set_same, get_or-set_other}
use Rattle.numbers.specs.NumberForm.{NumberForm}
use Rattle.machine.specs.Tables.{state_of}
use Rattle.machine.specs.Products.{entry, product}
use Rattle.machine.specs.Forward.{forward}
use Rattle.machine.specs.Updates.{with_unit_row, column_cleared, bordered, pushed}
use Rattle.machine.specs.Calls.{push}
use Rattle.machine.specs.Machine.{accepted}
use Rattle.machine.specs.Agreement.{Agree, AgreeWithin}
use Rattle.machine.specs.Counts.{forward_count, pushed_count, accepted_count}
use Rattle.machine.proofs.Choice.{neqb→ne, choose, pick, within_state}
use Rattle.storage.specs.Places.{l_index, u_index}
use Rattle.storage.specs.Views.{view_l, view_u, state_at}
use Rattle.storage.specs.Updated.{CarriedOut}
use Rattle.storage.proofs.Kept.{kept_all, kept_set, kept_then, kept_more}
use Rattle.storage.proofs.Places.{u_index_injective}
use Rattle.ranges.specs.Written.{Written}
use Rattle.buffers.specs.Performed.{work_of, Performed}
use Rattle.factors.specs.LUpdated.{LUpdated}
use Rattle.stages.proofs.StageLaws.{l_column, l_column_kept, u_column_other, u_column_kept, forward_agrees, forward_counted}

module _ (N : NumberForm) (E T : N.Value) where
  open N use {Value, zero as 𝟎, absent}

  module _ (c n d : ℕ) (l u y z w w₁ l₁ l₂ u₁ : List Value) (hc : n ≤ c) (hn : 0 < n) (ws : Written N (λ i. i) (n - 1) (product N (n - 1) (view_l N c l) (entry N z)) w w₁)
      (cleared : Written N (λ i. l_index c i (n - 1)) (n - 1) (λ i. 𝟎) l l₁) (unit : LUpdated N c n (with_unit_row N (n - 1) (n - 1)) l₁ l₂)
      (us : Written N (λ i. u_index c i (n - 1)) (n - 1) (entry N w₁) u u₁) (is-d : d ≡ u_index c (n - 1) (n - 1)) (fits : d < length u₁) where
    border_u : (i j : ℕ) → i ≤ j → j < n → view_u N c (set u₁ d 𝟎) i j ≡ (bordered N (n - 1) (view_l N c l) (view_u N c u) y z (entry N y (n - 1))).U i j
    unfolding bordered
    border_u i j hij hj =
        pick (eqb j (n - 1))
        (λ s. pick (eqb i (n - 1))
        (λ t. ap (λ (a : ℕ). view_u N c (set u₁ d 𝟎) a j) (eqb→eq i (n - 1) t) ∙ ap (view_u N c (set u₁ d 𝟎) (n - 1)) (eqb→eq j (n - 1) s) ∙ ap (entry N (set u₁ d 𝟎)) (sym is-d)
        ∙ get_or-set_same u₁ d 𝟎 absent fits)
        (λ t. let ne = neqb→ne i (n - 1) t in
        get_or-set_other u₁ d _ 𝟎 absent (λ e. ne (u_index_injective c i j (n - 1) (n - 1) hij (omega arith) (omega arith) (omega arith) (e ∙ is-d)).0)
        ∙ ap (view_u N c u₁ i) (eqb→eq j (n - 1) s) ∙ us.value i (omega (arith, ne)) ∙ ws.value i (omega (arith, ne))))
        (λ s. let ne = neqb→ne j (n - 1) s in
        get_or-set_other u₁ d _ 𝟎 absent (λ e. ne (u_index_injective c i j (n - 1) (n - 1) hij (omega arith) (omega arith) (omega arith) (e ∙ is-d)).1)
        ∙ u_column_other N c (n - 1) (n - 1) (omega arith) (omega arith) us i j hij (omega arith) (λ e. absurd (ne e)))

    border_agrees : AgreeWithin n 0 n 0 (work_of N c l₂ (set u₁ d 𝟎) y []) (bordered N (n - 1) (view_l N c l) (view_u N c u) y z (entry N y (n - 1)))
    unfolding bordered column_cleared
    border_agrees = record {
      L = λ i j hi hj. unit.value i j hi hj
          ∙ choose (eqb i (n - 1)) (λ _. refl) (λ s. l_column N c (n - 1) (n - 1) (omega arith) cleared i j (omega (arith, neqb→ne i (n - 1) s)) (omega arith));
      U = border_u;
      y = λ j a b. pick (eqb j (n - 1)) (λ s. ap (entry N y) (eqb→eq j (n - 1) s)) (λ s. refl);
      v = λ j h. absurd (omega arith);
    }

    push_agrees : {l' u' y' : List Value} → Performed N c n 0 n 0 (forward N E T 0 (n - 1) n) l₂ (set u₁ d 𝟎) y [] l' u' y' []
        → Agree (state_at N c (suc (n - 1)) l' u') (state_of (suc (n - 1)) (pushed N E T (n - 1) (view_l N c l) (view_u N c u) y z (entry N y (n - 1))))
    unfolding pushed
    push_agrees p =
        let e : suc (n - 1) ≡ n = omega arith in rw e (within_state n (omega arith)
        (forward_agrees N E T c n 0 (n - 1) n l₂ (set u₁ d 𝟎) y [] (omega arith) (omega arith) (omega arith) (omega arith) p border_agrees))

    push_counted : {a : ℕ} → a ≡ forward_count N E T 0 (n - 1) n (work_of N c l₂ (set u₁ d 𝟎) y []) → a ≡ pushed_count N E T (n - 1) (view_l N c l) (view_u N c u) y z (entry N y (n - 1))
    unfolding pushed_count
    push_counted is-a =
        let e : suc (n - 1) ≡ n = omega arith in rw e (forward_counted N E T c n 0 (n - 1) n l₂ (set u₁ d 𝟎) y [] (omega arith) (omega arith) (omega arith) is-a border_agrees)

    pub push_outcome : {l' u' y' : List Value} {a : ℕ}
        → Performed N c n 0 n 0 (forward N E T 0 (n - 1) n) l₂ (set u₁ d 𝟎) y [] l' u' y' [] × (a ≡ forward_count N E T 0 (n - 1) n (work_of N c l₂ (set u₁ d 𝟎) y []))
        → CarriedOut N E T c (n - 1) n (push y z (entry N y (n - 1))) l u y z w l' u' y' z w₁ a
    unfolding accepted accepted_count
    push_outcome ahead = record {
      factors = record {
        agree = push_agrees ahead.0;
        frame = record {
          l_kept = kept_then N (kept_then N (l_column_kept N c (n - 1) (n - 1) (omega arith) cleared n (omega arith) (omega arith)) unit.kept) ahead.0.frame.l_kept;
          u_kept = kept_then N (kept_then N (u_column_kept N c (n - 1) (n - 1) (omega arith) (omega arith) us n (omega arith))
              (kept_set N u₁ d 𝟎 (n - 1, n - 1, omega arith, omega arith, is-d))) ahead.0.frame.u_kept;
          y_kept = ahead.0.frame.y_kept;
          z_kept = kept_all N;
          w_kept = kept_more N (λ q a. omega arith) ws.kept;
        };
      };
      steps = push_counted ahead.1;
    }
