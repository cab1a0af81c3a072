-- `l_product_transposed`: one row of L a turn.
use Prim.Native.Nat.{◌≤◌}
use lib.Ieee.{binary64}
use Rattle.numbers.specs.NumberForm.{NumberForm, ieee}
use Rattle.machine.specs.Products.{entry}
use Rattle.ranges.specs.Written.{Written}
use Rattle.matrices.specs.Tables.{table_l}
use Rattle.products.proofs.Sums.{row_sums}
use Rattle.products.proofs.l_product_transposed.Given as goal

abbrev N : NumberForm
N = ieee binary64

abbrev pub invariant-loop-j : goal.invariant-loop-j
invariant-loop-j c = (c.j ≤ c.l.n) × Written N (λ k. k) c.l.n (row_sums N c.j (table_l c.l) (entry N c.input)) c.initial.output c.output
