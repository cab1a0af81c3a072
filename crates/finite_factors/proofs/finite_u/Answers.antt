-- `finite_u`: the test of a row, made of all rows.
use Rattle.std.proofs.Common.{◌≡◌, ◌∙◌, ℕ, ◌+◌, ◌-◌, Bool, refl, arith, rules, tests}
use Rattle.std.proofs.lemmas.Iterator.{YieldsList-from_range}
use Rattle.std.proofs.lemmas.Iterator.Search.{all_from_yields_List}
use lib.Ieee.{Float, binary64}
use Rattle.numbers.specs.NumberForm.{NumberForm, ieee}
use Rattle.machine.specs.Tables.{Table, tabulate}
use Rattle.matrices.specs.Tables.{table_u}
use Rattle.finite_factors.proofs.Rows.{finite_list, finite_rows}
use Rattle.finite_factors.proofs.finite_u.Goals as goal

abbrev N : NumberForm
N = ieee binary64

pub returns : goal.returns
returns c =
    let u = c.args.u in
    let rows : Table Float = λ i k. table_u u i (i + k) in
    let test : ℕ → Bool = λ i. finite_list N (tabulate (u.n - i) (rows i)) in
    let whole : u.n - 0 ≡ u.n = omega arith in
    all_from_yields_List test _ _ _ c.all.ensures.ran (YieldsList-from_range 0 u.n u.n refl whole) (λ x b q k. search (rules, tests)) ∙ finite_rows N u.n (λ i. u.n - i) rows
