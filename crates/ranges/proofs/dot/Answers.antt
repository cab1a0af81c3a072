-- `dot`: one term a turn.
use Rattle.std.proofs.Common.{◌∙◌, length, take, arith, length-append}
use Rattle.std.proofs.lemmas.Slice.Zip.{zip_turn}
use lib.Ieee.{binary64}
use Rattle.numbers.specs.NumberForm.{NumberForm, ieee}
use Rattle.ranges.proofs.Parts.{front_entry}
use Rattle.ranges.proofs.Writing.{sum_none, sum_more}
use Rattle.ranges.proofs.dot.Goals as goal

abbrev N : NumberForm
N = ieee binary64

pub loop-p-init : goal.loop-p-init
loop-p-init c = sum_none N _

pub loop-p-preserved : goal.loop-p-preserved
loop-p-preserved c =
    let t = zip_turn c.args.a.now (take (length c.args.a.now) c.args.b.now) c.loop-p.yielded c.into_iter-p-iterator.result c.loop-p.p-iterator c.next.new.self c.next.result (cc) (cc) c.loop-p.yielded_by _ c.in-Some.is c.next.ensures.steps in
    let q = t.3 N.absent ∙ front_entry N _ c.args.b.now _ t.0 (omega arith) in
    rw (length-append, t.2 N.absent, q) (sum_more N _ c.loop-p.invariant)
