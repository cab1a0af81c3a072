-- `put_values`: one more run a turn.
use mathlib.Core.Path.{◌≡◌}
use Prim.Native.Nat.{◌+◌, ◌-◌, ◌*◌, ◌/◌, ◌%◌, ◌≤◌}
use native.Mathlib.Nat.{add-zero, add_assoc}
use native.Mathlib.Omega.{arith}
use lib.Ieee.{binary64, to_bits}
use lib.ListN.{length, take, drop, length-drop}
use lib.Seq.{take-length}
use Rattle.std.proofs.lemmas.List.{length-take-le}
use Rattle.card_format.proofs.Put.{none_put}
use Rattle.card_writing.proofs.Runs.{run_put}
use Rattle.card_writing.proofs.put_values.Goals as goal

pub loop-k-init : goal.loop-k-init
loop-k-init c = (omega arith, rw add-zero (none_put c.args.first (c.args.first / 63) c.args.card.now), rw add-zero c.requires.sum)

pub loop-k-preserved : goal.loop-k-preserved
loop-k-preserved c =
    let a = c.args in
    let k = c.loop-k.k in
    let run = c.min-run.result in
    let within : k + run ≤ length a.values.now = omega (arith, c.min-run.ensures) in
    let long : length (take run (drop k a.values.now)) ≡ run = length-take-le run (drop k a.values.now) (omega (arith, length-drop k a.values.now)) in
    let at : 63 * ((a.first + k) / 63) + (a.first + k) % 63 ≡ a.first + k = omega arith in
    let size : k + run - k ≡ run = omega arith in
    let ran = rw (at, size) at c.put_run-sum.ensures in (
      within,
      run_put (to_bits binary64) a.first k run a.values.now (omega arith) c.loop-k.invariant.1 ran.words,
      rw (← add_assoc) (rw long at ran.sum),
    )

pub returns : goal.returns
returns c =
    let e : c.loop-k.k ≡ length c.args.values.now = omega (arith, c.loop-k.invariant.0) in
    record { words = rw take-length at (rw e at c.loop-k.invariant.1); sum = rw e at c.loop-k.invariant.2 }
