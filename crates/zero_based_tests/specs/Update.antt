-- The updates that the modes of `LUmod` name. Below stand computed lines, one for each mode.
use Rattle.std.specs.Prelude.{◌≡◌, refl, ℕ, ◌<◌, ◌==◌, if◌then◌else◌}
use Rattle.zero_based_tests.specs.declared.Update.{Update}
use Rattle.zero_based_tests.specs.declared.Update.TheVariants.{Push, ReplaceColumn, ReplaceRow, Remove}

-- Modes 1 to 4 are push, replace column, replace row, remove; the arguments are the mode, the row and the column
abbrev pub update_of : ℕ → ℕ → ℕ → Update
update_of mode row column = if mode == 1 then Push else (if mode == 2 then ReplaceColumn column else (if mode == 3 then ReplaceRow row else Remove row column))

-- n isn't 0, and the indices that the update uses are 0 to n − 1
abbrev pub InRange : Update → ℕ → Type 0
InRange Push n = 0 < n
InRange (ReplaceColumn column) n = column < n
InRange (ReplaceRow row) n = row < n
InRange (Remove row column) n = (row < n) × (column < n)

pub record Modes : Type 0 where
  mode_1 : update_of 1 5 6 ≡ Push
  mode_2 : update_of 2 5 6 ≡ ReplaceColumn 6
  mode_3 : update_of 3 5 6 ≡ ReplaceRow 5
  mode_4 : update_of 4 5 6 ≡ Remove 5 6

pub modes : Modes
modes = record { mode_1 = refl; mode_2 = refl; mode_3 = refl; mode_4 = refl }
