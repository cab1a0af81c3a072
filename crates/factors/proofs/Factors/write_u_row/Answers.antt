-- `write_u_row`: a part of U's buffer.
use mathlib.Core.Path.{refl, ap}
use Prim.Native.Nat.{◌+◌}
use native.Mathlib.Omega.{arith}
use lib.Ieee.{binary64}
use lib.ListN.{length}
use Rattle.numbers.specs.NumberForm.{NumberForm, ieee}
use Rattle.machine.specs.Products.{entry}
use Rattle.ranges.proofs.Parts.{part_written}
use Rattle.ranges.proofs.RowParts.{part_place}
use Rattle.ranges.proofs.Vectors.{written_at}
use Rattle.factors.proofs.Steps.{same_here, u_part_fits}
use Rattle.factors.proofs.Factors.write_u_row.Goals as goal

abbrev N : NumberForm
N = ieee binary64

pub slice_bounds-copy-end : goal.slice_bounds-copy-end
slice_bounds-copy-end c =
    let a = c.args in
    let f = a.self.now in
    let d = c.u_index-diagonal in
    u_part_fits f a.row (length a.values.now) (omega arith) (omega arith) d.ensures.0

pub returns : goal.returns
returns c =
    let a = c.args in
    let f = a.self.now in
    let d = c.u_index-diagonal in
    let count = length a.values.now in
    let fits = u_part_fits f a.row count (omega arith) (omega arith) d.ensures.0 in record {
      u =
          written_at N (part_place f.stride a.row a.row count d.result (omega arith) (omega arith) d.ensures.0)
          (part_written N d.result (d.result + count) count f.u.now _ refl fits (ap length c.copy.ensures) (λ j h. ap (λ ys. entry N ys j) c.copy.ensures));
      l = refl;
      same_storage = same_here refl refl refl refl;
    }
