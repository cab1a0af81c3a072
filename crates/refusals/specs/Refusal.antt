-- What the tests of the managed calls answer, in the numbers of documents 01 and 02.
use Rattle.std.specs.Prelude.{ℕ, Option as Optional, Some, None, Result, Ok, Err}
use Rattle.std.proofs.Math.Option.{Option, none, some}
use Rattle.machine.specs.Calls.{Answer, done, moved, refused, refused_at}
use Rattle.refusals.specs.declared.Refusal.{Refusal}
use Rattle.refusals.specs.declared.Refusal.TheVariants as refusal

-- the number, and index, for each case of `Refusal`
abbrev pub refusal_of : Refusal → Answer
refusal_of refusal.InvalidDimension = refused 1
refusal_of refusal.SizeOverflow = refused 2
refusal_of refusal.InsufficientL = refused 3
refusal_of refusal.InsufficientU = refused 13
refusal_of refusal.UnequalWorkspaces = refused 14
refusal_of refusal.CapacityExceeded = refused 4
refusal_of refusal.RowOutOfBounds = refused 5
refusal_of refusal.ColumnOutOfBounds = refused 6
refusal_of refusal.LengthMismatch = refused 7
refusal_of (refusal.NonFiniteData i) = refused_at 23 i
refusal_of refusal.InsufficientWorkspace = refused 8
refusal_of (refusal.Singular i) = refused_at 9 i
refusal_of (refusal.NonFiniteDiagonal i) = refused_at 10 i

-- the index that comes with a number, of a diagonal or of a place in the data, where one does
abbrev pub index_of : Answer → Optional ℕ
index_of done = None
index_of (moved r k) = None
index_of (refused number) = None
index_of (refused_at number i) = Some i

-- what a test says: no refusal, or which
abbrev pub test_of : Result (Unit {0}) Refusal → Option Answer
test_of (Ok v) = none
test_of (Err r) = some (refusal_of r)

-- what a call answers, remove apart: 0, or the refusal's number with its index
abbrev pub answer_of : {T : Type 0} → Result T Refusal → Answer
answer_of (Ok v) = done
answer_of (Err r) = refusal_of r
