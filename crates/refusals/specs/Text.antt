-- What a refusal says in words: one sentence for each number of documents 01 and 02, with its index or place where it has one.
-- For 9 and 10 it is the sentence of the error that they come from.
use Rattle.std.specs.Prelude.{List, ◌++◌, ℕ, codes, decimal}
use Rattle.diagonals.specs.declared.BadDiagonal.TheVariants.{Zero, NonFinite}
use Rattle.diagonals.specs.Diagonal as diagonal
use Rattle.refusals.specs.declared.Refusal.{Refusal}
use Rattle.refusals.specs.declared.Refusal.TheVariants as refusal

abbrev pub text_of : Refusal → List ℕ
text_of refusal.InvalidDimension = codes "the dimension exceeds the capacity"
text_of refusal.SizeOverflow = codes "the lengths for the capacity exceed usize"
text_of refusal.InsufficientL = codes "L is too short"
text_of refusal.InsufficientU = codes "U is too short"
text_of refusal.UnequalWorkspaces = codes "the workspaces have unequal lengths"
text_of refusal.CapacityExceeded = codes "the dimension is the capacity already"
text_of refusal.RowOutOfBounds = codes "there is no such row"
text_of refusal.ColumnOutOfBounds = codes "there is no such column"
text_of refusal.LengthMismatch = codes "lent data are not as long as the dimension"
text_of (refusal.NonFiniteData i) = codes "the value at place " ++ (decimal i ++ codes " is infinite or NaN")
text_of refusal.InsufficientWorkspace = codes "the workspaces are too short"
text_of (refusal.Singular i) = diagonal.text_of (Zero i)
text_of (refusal.NonFiniteDiagonal i) = diagonal.text_of (NonFinite i)
