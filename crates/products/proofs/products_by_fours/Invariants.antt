-- `products_by_fours`: four entries a turn.
use Prim.Native.Nat.{◌*◌, ◌≤◌}
use lib.Ieee.{binary64}
use Rattle.numbers.specs.NumberForm.{NumberForm, ieee}
use Rattle.machine.specs.Products.{entry, product}
use Rattle.ranges.specs.Written.{Written}
use Rattle.matrices.specs.Tables.{table_l}
use Rattle.products.proofs.products_by_fours.Given as goal

abbrev N : NumberForm
N = ieee binary64

abbrev pub invariant-loop-four : goal.invariant-loop-four
invariant-loop-four c = (4 * c.four ≤ c.l.n) × Written N (λ k. k) (4 * c.four) (product N c.l.n (table_l c.l) (entry N c.input)) c.initial.output c.output
