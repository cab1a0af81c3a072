-- Laws of `UpdateFrame` and of `Updated`.
use mathlib.Core.Path.{◌≡◌, subst}
use mathlib.Core.List.{List}
use Prim.Native.Nat.{ℕ, ◌*◌, ◌≤◌, ◌<◌}
use native.Mathlib.Omega.{arith}
use lib.ListN.{get_or}
use Rattle.numbers.specs.NumberForm.{NumberForm}
use Rattle.machine.specs.Tables.{State}
use Rattle.machine.specs.Agreement.{Agree}
use Rattle.machine.proofs.Choice.{agree_trans}
use Rattle.storage.specs.Places.{u_length, LPlace, UPlace}
use Rattle.storage.specs.Views.{state_at, Kept}
use Rattle.storage.specs.Updated.{UpdateFrame, Updated}
use Rattle.storage.proofs.Kept.{kept_all, kept_then}
use Rattle.storage.proofs.Places.{l_index_within, u_index_within}

-- an update leaves the solve work, and what lies behind U
module _ (N : NumberForm) (c m : ℕ) {l u y z w l' u' y' z' w' : List N.Value} (f : UpdateFrame N c m l u y z w l' u' y' z' w') (within : m ≤ c) where
  open N use {absent}

  pub frame_leaves_L : (q : ℕ) → c * c ≤ q → get_or l' q absent ≡ get_or l q absent
  frame_leaves_L q h = f.l_kept.same q (λ p. omega (arith, p.4, l_index_within c p.0 p.1 (omega (arith, p.2)) (omega (arith, p.3))))

  pub frame_leaves_U : (q : ℕ) → u_length c ≤ q → get_or u' q absent ≡ get_or u q absent
  frame_leaves_U q h = f.u_kept.same q (λ p. omega (arith, p.4, u_index_within c p.0 p.1 p.2 (omega (arith, p.3))))

module _ (N : NumberForm) {c m : ℕ} where
  open N use {Value}

  pub frame_all : {l u y z w : List Value} → UpdateFrame N c m l u y z w l u y z w
  frame_all = record { l_kept = kept_all N; u_kept = kept_all N; y_kept = kept_all N; z_kept = kept_all N; w_kept = kept_all N }

  pub frame_then : {l u y z w l₁ u₁ y₁ z₁ w₁ l₂ u₂ y₂ z₂ w₂ : List Value} → UpdateFrame N c m l u y z w l₁ u₁ y₁ z₁ w₁
      → UpdateFrame N c m l₁ u₁ y₁ z₁ w₁ l₂ u₂ y₂ z₂ w₂ → UpdateFrame N c m l u y z w l₂ u₂ y₂ z₂ w₂
  frame_then h g = record {
    l_kept = kept_then N h.l_kept g.l_kept;
    u_kept = kept_then N h.u_kept g.u_kept;
    y_kept = kept_then N h.y_kept g.y_kept;
    z_kept = kept_then N h.z_kept g.z_kept;
    w_kept = kept_then N h.w_kept g.w_kept;
  }

  -- A step that was lent something else in the middle workspace's place, or in the last one's, leaves the workspace.
  pub frame_middle : {l u y x z w l' u' y' x' w' : List Value} → UpdateFrame N c m l u y x w l' u' y' x' w' → UpdateFrame N c m l u y z w l' u' y' z w'
  frame_middle h = record { l_kept = h.l_kept; u_kept = h.u_kept; y_kept = h.y_kept; z_kept = kept_all N; w_kept = h.w_kept }

  pub frame_last : {l u y z x w l' u' y' z' x' : List Value} → UpdateFrame N c m l u y z x l' u' y' z' x' → UpdateFrame N c m l u y z w l' u' y' z' w
  frame_last h = record { l_kept = h.l_kept; u_kept = h.u_kept; y_kept = h.y_kept; z_kept = h.z_kept; w_kept = kept_all N }

  -- A step that was lent the middle workspace in the first one's place leaves the first.
  pub frame_first : {l u y z x w l' u' z' x' w' : List Value} → UpdateFrame N c m l u z x w l' u' z' x' w' → UpdateFrame N c m l u y z w l' u' y z' w'
  frame_first h = record { l_kept = h.l_kept; u_kept = h.u_kept; y_kept = kept_all N; z_kept = h.y_kept; w_kept = h.w_kept }

  -- Where one buffer alone was written.
  pub frame_l : {l u y z w l' : List Value} → Kept N (LPlace c m) l l' → UpdateFrame N c m l u y z w l' u y z w
  frame_l h = record { l_kept = h; u_kept = kept_all N; y_kept = kept_all N; z_kept = kept_all N; w_kept = kept_all N }

  pub frame_u : {l u y z w u' : List Value} → Kept N (UPlace c m) u u' → UpdateFrame N c m l u y z w l u' y z w
  frame_u h = record { l_kept = kept_all N; u_kept = h; y_kept = kept_all N; z_kept = kept_all N; w_kept = kept_all N }

  pub frame_y : {l u y z w y' : List Value} → Kept N (λ q. q < m) y y' → UpdateFrame N c m l u y z w l u y' z w
  frame_y h = record { l_kept = kept_all N; u_kept = kept_all N; y_kept = h; z_kept = kept_all N; w_kept = kept_all N }

  pub frame_w : {l u y z w w' : List Value} → Kept N (λ q. q < m) w w' → UpdateFrame N c m l u y z w l u y z w'
  frame_w h = record { l_kept = kept_all N; u_kept = kept_all N; y_kept = kept_all N; z_kept = kept_all N; w_kept = h }

  -- ---- the factors of a state that agrees

  pub updated_as : {Q R : State Value} {l u y z w l' u' y' z' w' : List Value} → Agree Q R → Updated N c m Q l u y z w l' u' y' z' w' → Updated N c m R l u y z w l' u' y' z' w'
  updated_as {Q} {R} {l' = l'} {u' = u'} same d = record { agree = agree_trans (subst (λ (k : ℕ). Agree (state_at N c k l' u') Q) same.n d.agree) same; frame = d.frame }
