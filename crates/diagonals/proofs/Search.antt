-- One turn of the search along U's diagonal.
use mathlib.Core.Path.{◌≡◌, refl, sym}
use mathlib.Core.Bool.{true, false}
use mathlib.Core.Option.{none, some}
use Prim.Native.Nat.{ℕ, ◌+◌, ◌<◌}
use native.Mathlib.Numerals.{add-one}
use Rattle.numbers.specs.NumberForm.{NumberForm}
use Rattle.machine.specs.Tables.{Table}
use Rattle.machine.specs.Solves.{diagonals}
use Rattle.machine.specs.Calls.{refused_at}
use Rattle.machine.proofs.Diagonals.{one_more_sound, first_named}

-- the diagonals before i are sound, and x is the one at i
module _ (N : NumberForm) (U : Table N.Value) (n i : ℕ) (x : N.Value) (is_x : x ≡ U i i) (sound : diagonals N U i ≡ none) where
  open N use {is_zero, is_finite}

  pub zero_found : i < n → is_zero x ≡ true → some (refused_at 9 i) ≡ diagonals N U n
  zero_found h z = sym (first_named N U n i (refused_at 9 i) h sound (rw (← is_x, z)))

  pub non_finite_found : i < n → is_zero x ≡ false → is_finite x ≡ false → some (refused_at 10 i) ≡ diagonals N U n
  non_finite_found h z f = sym (first_named N U n i (refused_at 10 i) h sound (rw (← is_x, z, f)))

  pub sound_found : is_zero x ≡ false → is_finite x ≡ true → diagonals N U (i + 1) ≡ none
  sound_found z f = rw add-one (one_more_sound N U i sound (rw (← is_x, z, f)))

pub none_searched : (N : NumberForm) (U : Table N.Value) → diagonals N U 0 ≡ none
unfolding diagonals
none_searched N U = refl
