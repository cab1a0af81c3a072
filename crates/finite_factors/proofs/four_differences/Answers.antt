-- `four_differences`: the four sums, as one test.
use mathlib.Core.Path.{◌≡◌, sym, ap, ◌∙◌}
use mathlib.Core.Bool.{Bool, ◌&&◌}
use Prim.Native.Nat.{ℕ, ◌+◌}
use native.Mathlib.Nat.{add-zero}
use lib.Ieee.{binary64, add}
use lib.Ieee.Scale.{finite}
use Rattle.numbers.specs.NumberForm.{ieee}
use Rattle.machine.specs.Products.{entry}
use Rattle.machine.specs.Readiness.{all_below}
use Rattle.finite_factors.specs.Differences.{zero_or_nan}
use Rattle.finite_factors.proofs.Differences.{four_sums}
use Rattle.finite_factors.proofs.four_differences.Goals as goal

pub returns : goal.returns
unfolding all_below
returns c =
    let test : ℕ → Bool = λ k. finite (entry (ieee binary64) c.args.values.now k) in
    let i = c.args.i in
    let first : test i ≡ test (i + 0) = ap (λ (k : ℕ). test k) (sym (add-zero i)) in
    (λ t. add binary64 (add binary64 (c.difference.ensures t) (c.difference-2.ensures t)) (add binary64 (c.difference-3.ensures t) (c.difference-4.ensures t)))
    ∙ four_sums binary64 (test i) (test (i + 1)) (test (i + 2)) (test (i + 3))
    ∙ λ t. zero_or_nan (((first t && test (i + 1)) && test (i + 2)) && test (i + 3))
