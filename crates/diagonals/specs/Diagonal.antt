-- What the search along U's diagonal answers, and what its error says in words.
use Rattle.std.specs.Prelude.{List, ◌++◌, ℕ, codes, decimal, Result, Ok, Err}
use Rattle.std.proofs.Math.Option.{Option, none, some}
use Rattle.machine.specs.Calls.{Answer, refused_at}
use Rattle.diagonals.specs.declared.BadDiagonal.{BadDiagonal}
use Rattle.diagonals.specs.declared.BadDiagonal.TheVariants.{Zero, NonFinite}

-- document 01's number and index for each case of the error
abbrev pub answer_of : Result (Unit {0}) BadDiagonal → Option Answer
answer_of (Ok v) = none
answer_of (Err (Zero i)) = some (refused_at 9 i)
answer_of (Err (NonFinite i)) = some (refused_at 10 i)

-- one sentence for each case of the error, with its index
abbrev pub text_of : BadDiagonal → List ℕ
text_of (Zero i) = codes "diagonal " ++ (decimal i ++ codes " of U is zero")
text_of (NonFinite i) = codes "diagonal " ++ (decimal i ++ codes " of U is infinite or NaN")
