-- `replace_row`: the values are copied, and the update is that of the data.
use native.Mathlib.Omega.{arith}
use lib.Ieee.{binary64}
use Rattle.numbers.specs.Tolerances.{managed_epsilon, managed_tiny}
use Rattle.numbers.specs.NumberForm.{ieee}
use Rattle.ranges.proofs.Parts.{front_copied}
use Rattle.copied_data.proofs.CopiedData.{row_of_copy}
use Rattle.copied_data.proofs.replace_row.Goals as goal

pub returns : goal.returns
returns c =
    let a = c.args in
    let f = a.factors.now in
    let copied = front_copied (ieee binary64) f.n a.y.now _ (omega arith) a.values.now (omega arith) c.copy.ensures in
    let b = c.managed.ensures in record {
      carried_out =
          row_of_copy (ieee binary64) (managed_epsilon binary64) (managed_tiny binary64) f.n f.stride
          a.row a.values.now copied (omega arith) (rw (b.0, b.1) at c.replace_row.ensures.carried_out);
      same_storage = c.replace_row.ensures.same_storage;
    }
