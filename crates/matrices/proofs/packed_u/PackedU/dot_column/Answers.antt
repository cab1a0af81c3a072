-- `PackedU::dot_column`: one term a turn.
use native.Mathlib.Omega.{arith}
use lib.Ieee.{binary64}
use Rattle.numbers.specs.NumberForm.{NumberForm, ieee}
use Rattle.ranges.proofs.Parts.{front_entry, front_length}
use Rattle.ranges.proofs.Writing.{sum_none, sum_more}
use Rattle.matrices.proofs.packed_u.PackedU.dot_column.Goals as goal

abbrev N : NumberForm
N = ieee binary64

pub loop-i-init : goal.loop-i-init
loop-i-init c = sum_none N _

pub loop-i-preserved : goal.loop-i-preserved
loop-i-preserved c =
    let long = front_length N c.args.column c.args.values.now (omega arith) in
    rw (c.get.ensures, front_entry N c.args.column c.args.values.now c.loop-i.i (omega (arith, long)) (omega arith)) (sum_more N _ c.loop-i.invariant)
