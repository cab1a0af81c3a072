-- `trim`: the last entry that is not negligible, or none.
use Prim.Native.Nat.{◌+◌, ◌<◌}
use Rattle.std.proofs.Common.{rules, arith, length}
use lib.Ieee.{binary64}
use Rattle.numbers.specs.NumberForm.{NumberForm, ieee}
use Rattle.ranges.proofs.Parts.{part}
use Rattle.backward.proofs.Trimming.{trim_found, trim_none}
use Rattle.backward.proofs.trim.Goals as goal

abbrev N : NumberForm
N = ieee binary64

pub returns-in-Some : goal.returns-in-Some
returns-in-Some c =
    let inside : c.in-Some.k < length (part N (c.args.first + 1) (c.args.last + 1) c.args.v.now) = search rules in
    let ends = trim_found N c.args.epsilon c.args.v.now c.args.first c.args.last (omega arith) (omega arith) c.in-Some.k inside (search rules) (search rules) in
    (ends, (omega arith, search rules))

pub returns-in-None : goal.returns-in-None
returns-in-None c =
    let ends = trim_none N c.args.epsilon c.args.v.now c.args.first c.args.last (omega arith) (omega arith) (search rules) in
    (ends, (omega arith, omega arith))
