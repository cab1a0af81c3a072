-- A refusal reports nothing that moved.
use mathlib.Core.Path.{◌≡◌, refl}
use Prim.Native.Nat.{ℕ}
use Rattle.refusals.specs.declared.Refusal.{Refusal}
use Rattle.refusals.specs.declared.Refusal.TheVariants.{InvalidDimension, SizeOverflow, InsufficientL, InsufficientU, UnequalWorkspaces, CapacityExceeded, RowOutOfBounds, ColumnOutOfBounds, LengthMismatch, NonFiniteData, InsufficientWorkspace, Singular, NonFiniteDiagonal}
use Rattle.refusals.specs.Refusal.{refusal_of}
use Rattle.answers.specs.Numbers.{moved_row_after, moved_column_after}

pub refusal_moves_nothing : (r : Refusal) (row column : ℕ) → (row ≡ moved_row_after (refusal_of r) row) × (column ≡ moved_column_after (refusal_of r) column)
refusal_moves_nothing InvalidDimension row column = (refl, refl)
refusal_moves_nothing SizeOverflow row column = (refl, refl)
refusal_moves_nothing InsufficientL row column = (refl, refl)
refusal_moves_nothing InsufficientU row column = (refl, refl)
refusal_moves_nothing UnequalWorkspaces row column = (refl, refl)
refusal_moves_nothing CapacityExceeded row column = (refl, refl)
refusal_moves_nothing RowOutOfBounds row column = (refl, refl)
refusal_moves_nothing ColumnOutOfBounds row column = (refl, refl)
refusal_moves_nothing LengthMismatch row column = (refl, refl)
refusal_moves_nothing (NonFiniteData i) row column = (refl, refl)
refusal_moves_nothing InsufficientWorkspace row column = (refl, refl)
refusal_moves_nothing (Singular i) row column = (refl, refl)
refusal_moves_nothing (NonFiniteDiagonal i) row column = (refl, refl)
