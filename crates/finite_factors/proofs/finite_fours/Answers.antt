-- `finite_fours`: four values more a turn.
use mathlib.Core.Path.{◌≡◌, refl, sym, ap, ◌∙◌}
use mathlib.Core.Bool.{Bool}
use Prim.Native.Nat.{ℕ, ◌+◌, ◌-◌, ◌*◌, ◌%◌}
use native.Mathlib.Omega.{arith}
use lib.Ieee.{binary64, add, eq, of_bits}
use lib.Ieee.Scale.{finite}
use lib.ListN.{length}
use Rattle.numbers.specs.NumberForm.{ieee}
use Rattle.machine.specs.Products.{entry}
use Rattle.machine.specs.Readiness.{all_below}
use Rattle.finite_factors.specs.Differences.{zero_or_nan}
use Rattle.finite_factors.proofs.Rows.{all_below_both}
use Rattle.finite_factors.proofs.Differences.{sum_is, zero_found}
use Rattle.finite_factors.proofs.finite_fours.Goals as goal

pub loop-four-init : goal.loop-four-init
unfolding all_below of_bits
loop-four-init c = record { within = omega arith; found = refl }

pub loop-four-preserved : goal.loop-four-preserved
loop-four-preserved c =
    let test : ℕ → Bool = λ k. finite (entry (ieee binary64) c.args.values.now k) in
    let done = 4 * c.loop-four.four in
    let more : 4 * (c.loop-four.four + 1) ≡ done + 4 = omega arith in
    record {
      within = omega arith;
      found = (λ t. add binary64 (c.loop-four.invariant.found t) (c.four_differences-sum.ensures t))
          ∙ sum_is binary64 (all_below done test) _
          ∙ ap zero_or_nan (sym (all_below_both done 4 test))
          ∙ ap (λ (k : ℕ). zero_or_nan (all_below k test)) (sym more);
    }

pub returns : goal.returns
unfolding of_bits
returns c =
    let test : ℕ → Bool = λ k. finite (entry (ieee binary64) c.args.values.now k) in
    let all : 4 * c.loop-four.four ≡ length c.args.values.now - length c.args.values.now % 4 = omega arith in
    ap (λ x. eq x (of_bits binary64 0)) c.loop-four.invariant.found ∙ zero_found _ ∙ ap (λ (k : ℕ). all_below k test) all
