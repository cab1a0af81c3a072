-- `finite_each`: the test of an entry, made of all entries.
use Rattle.std.proofs.Common.{◌∙◌, rules, tests}
use Rattle.std.proofs.lemmas.Iterator.{YieldsList-from_slice}
use Rattle.std.proofs.lemmas.Iterator.Search.{all_from_yields_List}
use lib.Ieee.{binary64}
use lib.Ieee.Scale.{finite}
use Rattle.numbers.specs.NumberForm.{ieee}
use Rattle.finite_factors.proofs.Rows.{each_finite}
use Rattle.finite_factors.proofs.finite_each.Goals as goal

pub returns : goal.returns
returns c =
    let xs = c.args.values.now in
    all_from_yields_List finite _ _ _ c.all.ensures.ran (YieldsList-from_slice {s = c.iter.result} xs (search rules)) (λ x b q k. search (rules, tests)) ∙ each_finite (ieee binary64) xs
