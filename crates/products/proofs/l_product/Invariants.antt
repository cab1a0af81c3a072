-- `l_product`: the entries that are left, one a turn.
use Prim.Native.Nat.{◌≤◌}
use lib.Ieee.{binary64}
use Rattle.numbers.specs.NumberForm.{NumberForm, ieee}
use Rattle.machine.specs.Products.{entry, product}
use Rattle.ranges.specs.Written.{Written}
use Rattle.matrices.specs.Tables.{table_l}
use Rattle.products.proofs.l_product.Given as goal

abbrev N : NumberForm
N = ieee binary64

abbrev pub invariant-loop-i : goal.invariant-loop-i
invariant-loop-i c = (c.i ≤ c.l.n) × Written N (λ k. k) c.i (product N c.l.n (table_l c.l) (entry N c.input)) c.initial.output c.output
