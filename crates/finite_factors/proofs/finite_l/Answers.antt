-- `finite_l`: the test of a row, made of all rows.
use Rattle.std.proofs.Common.{◌≡◌, ◌∙◌, ℕ, ◌-◌, Bool, refl, arith, rules, tests}
use Rattle.std.proofs.lemmas.Iterator.{YieldsList-from_range}
use Rattle.std.proofs.lemmas.Iterator.Search.{all_from_yields_List}
use lib.Ieee.{binary64}
use Rattle.numbers.specs.NumberForm.{NumberForm, ieee}
use Rattle.machine.specs.Tables.{tabulate}
use Rattle.matrices.specs.Tables.{table_l}
use Rattle.finite_factors.proofs.Rows.{finite_list, finite_rows}
use Rattle.finite_factors.proofs.finite_l.Goals as goal

abbrev N : NumberForm
N = ieee binary64

pub returns : goal.returns
returns c =
    let l = c.args.l in
    let test : ℕ → Bool = λ i. finite_list N (tabulate l.n (table_l l i)) in
    let whole : l.n - 0 ≡ l.n = omega arith in
    all_from_yields_List test _ _ _ c.all.ensures.ran (YieldsList-from_range 0 l.n l.n refl whole) (λ x b q k. search (rules, tests)) ∙ finite_rows N l.n (λ i. l.n) (table_l l)
