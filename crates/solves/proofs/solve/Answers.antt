-- `solve`: the product, and back substitution on what it left.
use native.Mathlib.Omega.{arith}
use lib.Ieee.{binary64}
use Rattle.numbers.specs.NumberForm.{NumberForm, ieee}
use Rattle.machine.proofs.Products.{product_same}
use Rattle.machine.proofs.Solves.{back_substitution_same}
use Rattle.storage.proofs.Kept.{kept_more}
use Rattle.ranges.proofs.Parts.{front_copied}
use Rattle.ranges.proofs.Vectors.{written_as, written_over}
use Rattle.matrices.specs.Tables.{table_l, table_u}
use Rattle.solves.proofs.solve.Goals as goal

abbrev N : NumberForm
N = ieee binary64

pub returns : goal.returns
returns c =
    let n = c.args.l.n in
    let L = table_l c.args.l in
    let U = table_u c.args.u in
    let copied = front_copied N n c.args.work.now _ (omega arith) c.args.b.now (omega arith) c.copy.ensures in
    let product = written_as N _ (product_same N n L L _ _ (λ i j _ _ _. L i j) copied.value) c.l_product.ensures in (
      written_over N product (written_as N _ (back_substitution_same N n U U (λ i j _ _ _. U i j) _ _ product.value n (omega arith)) (rw c.requires.0 at c.back_substitute.ensures)),
      kept_more N (λ q w. omega arith) copied.kept,
    )
