-- `PackedU::row`: a part of the storage.
use native.Mathlib.Omega.{arith}
use lib.Ieee.{binary64}
use Rattle.numbers.specs.NumberForm.{NumberForm, ieee}
use Rattle.matrices.proofs.Rows.{u_row_fits, u_row_listed}
use Rattle.matrices.proofs.packed_u.PackedU.row.Goals as goal

abbrev N : NumberForm
N = ieee binary64

-- all that the stride has of the row is within the storage
pub slice_bounds-result-end : goal.slice_bounds-result-end
slice_bounds-result-end c =
    let u = c.args.self in omega (arith, u_row_fits N u.stride u.stride c.args.row c.u_index-diagonal.result u.entries.now (omega arith) (omega arith) (omega arith) c.u_index-diagonal.ensures.0)

pub returns-clause-entries : goal.returns-clause-entries
returns-clause-entries c =
    let u = c.args.self in u_row_listed N u.stride u.n c.args.row c.u_index-diagonal.result u.entries.now (omega arith) (omega arith) (omega arith) c.u_index-diagonal.ensures.0
