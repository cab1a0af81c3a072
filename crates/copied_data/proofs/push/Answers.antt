-- `push`: the row is copied, the diagonal put behind it, and the update is that of the data.
use Prim.Native.Nat.{◌-◌}
use native.Mathlib.Omega.{arith}
use lib.Ieee.{binary64}
use Rattle.numbers.specs.Tolerances.{managed_epsilon, managed_tiny}
use Rattle.numbers.specs.NumberForm.{ieee}
use Rattle.ranges.proofs.Parts.{front_copied}
use Rattle.copied_data.proofs.CopiedData.{push_of_copy_at}
use Rattle.copied_data.proofs.push.Goals as goal

pub returns : goal.returns
returns c =
    let a = c.args in
    let f = a.factors.now in
    let copied = front_copied (ieee binary64) (f.n - 1) a.y.now _ (omega arith) a.row.now (omega arith) c.copy.ensures in
    let b = c.managed.ensures in record {
      carried_out =
          push_of_copy_at (ieee binary64) (managed_epsilon binary64) (managed_tiny binary64) (f.n - 1) f.stride f.n (omega arith)
          a.row.now a.column.now a.diagonal copied (omega (arith, copied.kept.long)) (rw (b.0, b.1) at c.push.ensures.carried_out);
      same_storage = c.push.ensures.same_storage;
    }
