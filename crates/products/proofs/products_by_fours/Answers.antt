-- `products_by_fours`: four entries a turn.
use mathlib.Core.Path.{◌≡◌}
use Prim.Native.Nat.{◌+◌, ◌*◌}
use native.Mathlib.Omega.{arith}
use lib.Ieee.{binary64}
use Rattle.numbers.specs.NumberForm.{NumberForm, ieee}
use Rattle.products.proofs.Sums.{written_four}
use Rattle.products.proofs.products_by_fours.Goals as goal

abbrev N : NumberForm
N = ieee binary64

pub loop-four-preserved : goal.loop-four-preserved
loop-four-preserved c =
    let e : 4 * (c.loop-four.four + 1) ≡ 4 * c.loop-four.four + 4 = omega arith in (omega arith, rw e (written_four N (4 * c.loop-four.four) c.loop-four.invariant.1 c.four_products.ensures))
