-- `back_substitute`: one row a turn, downward.
use mathlib.Core.Path.{◌≡◌, refl, ◌∙◌}
use Prim.Native.Nat.{◌+◌, ◌-◌, ◌≤◌, ◌<◌}
use native.Mathlib.Omega.{arith}
use lib.Ieee.{binary64}
use lib.ListN.{length}
use Rattle.numbers.specs.NumberForm.{NumberForm, ieee}
use Rattle.matrices.specs.Tables.{table_u}
use Rattle.substitutions.proofs.Rows.{back_none, back_more, diagonal_is, rest_is}
use Rattle.substitutions.proofs.back_substitute.Goals as goal

abbrev N : NumberForm
N = ieee binary64

pub loop-row-init : goal.loop-row-init
loop-row-init c = (omega arith, back_none N _ _ _)

pub loop-row-preserved : goal.loop-row-preserved
loop-row-preserved c =
    let n = c.args.u.n in
    let row = c.loop-row.row - 1 in
    let U = table_u c.args.u in
    let b = c.loop-row.b in
    let h = c.loop-row.invariant.1 in
    let k = h.kept.long in
    let below : row < n = omega arith in
    let within : n ≤ length b = omega arith in
    let here : c.loop-row.row ≡ row + 1 = omega arith in
    let entries = c.row-entries.ensures.entries in
    let sum = c.dot-sum.ensures ∙ rest_is N n row U below entries b within in
    (omega arith, back_more N n row U c.args.b.now b below within (diagonal_is N n row U below entries) refl (rw here at h) sum)
