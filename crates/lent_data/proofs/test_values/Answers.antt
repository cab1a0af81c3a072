-- `test_values`: `position` names the first value that is not finite.
use mathlib.Core.Path.{◌≡◌, sym}
use mathlib.Core.Bool.{true, false}
use Prim.Native.Nat.{ℕ, ◌<◌}
use borrow.Author.Rules.{rules}
use lib.Ieee.{binary64}
use lib.ListN.{length}
use Rattle.numbers.specs.NumberForm.{NumberForm, ieee}
use Rattle.machine.proofs.LentData.{finite_at, first_named}
use Rattle.lent_data.proofs.test_values.Goals as goal

abbrev N : NumberForm
N = ieee binary64

pub returns-in-Some : goal.returns-in-Some
returns-in-Some c =
    let xs = c.args.values.now in
    let i = c.in-Some.i in
    let below : i < length xs = search rules in
    let before : (j : ℕ) → j < i → finite_at N xs j ≡ true = search rules in
    let here : finite_at N xs i ≡ false = search rules in
    sym (first_named N c.args.first xs i below before here)
