-- `solve_transpose`: forward substitution, and the product of what it left.
use native.Mathlib.Omega.{arith}
use lib.Ieee.{binary64}
use Rattle.numbers.specs.NumberForm.{NumberForm, ieee}
use Rattle.machine.proofs.Products.{product_transposed_same}
use Rattle.storage.proofs.Kept.{kept_more}
use Rattle.ranges.proofs.Parts.{front_copied}
use Rattle.ranges.proofs.Vectors.{written_as, written_over}
use Rattle.matrices.specs.Tables.{table_l}
use Rattle.solves.proofs.solve_transpose.Goals as goal

abbrev N : NumberForm
N = ieee binary64

pub returns : goal.returns
returns c =
    let n = c.args.l.n in
    let L = table_l c.args.l in
    let solved = rw c.requires.0 at c.forward_substitute.ensures in
    let copied = front_copied N n c.args.work.now _ (omega arith) _ (omega (arith, solved.kept.long)) c.copy.ensures in
    let read = written_as N _ solved.value copied in (
      written_over N solved (written_as N _ (product_transposed_same N n L L _ _ (λ i j _ _ _. L i j) read.value) c.l_product_transposed.ensures),
      kept_more N (λ q w. omega arith) copied.kept,
    )
