-- `DenseL::row`: a part of the storage.
use native.Mathlib.Omega.{arith}
use lib.Ieee.{binary64}
use Rattle.numbers.specs.NumberForm.{ieee}
use Rattle.matrices.proofs.Rows.{l_row_listed}
use Rattle.matrices.proofs.dense_l.DenseL.row.Goals as goal

pub returns-clause-entries : goal.returns-clause-entries
returns-clause-entries c = l_row_listed (ieee binary64) c.args.self.stride c.args.self.n c.args.row c.args.self.entries.now (omega arith) (omega arith) (omega arith)
