-- `set_unit_row`: zeros, and then the one.
use mathlib.Core.Path.{refl}
use native.Mathlib.Omega.{arith}
use lib.Ieee.{binary64}
use Rattle.numbers.specs.NumberForm.{NumberForm, ieee}
use Rattle.storage.proofs.Places.{row_before}
use Rattle.ranges.proofs.Parts.{part_filled}
use Rattle.factors.proofs.UnitRow.{unit_row_set}
use Rattle.factors.proofs.Steps.{same_here}
use Rattle.factors.proofs.Factors.set_unit_row.Goals as goal

abbrev N : NumberForm
N = ieee binary64

pub returns : goal.returns
returns c =
    let a = c.args in
    let f = a.self.now in
    let fits = row_before f.stride a.row f.stride (omega arith) in
    let zeros = part_filled N _ _ f.n f.l.now _ refl (omega arith) _ (c.fill.ensures.after (λ y same. same)) in record {
      l = unit_row_set N f.stride f.n a.row a.column _ f.l.now (omega arith) (omega arith) (omega arith) refl (omega (arith, zeros.kept.long)) zeros;
      u = refl;
      same_storage = same_here refl refl refl refl;
    }
