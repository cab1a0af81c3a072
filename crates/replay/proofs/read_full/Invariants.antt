-- `read_full`: no more is read than there is room for.
use Rattle.std.proofs.Common.{◌≤◌, length}
use Rattle.replay.proofs.read_full.Given as goal

abbrev pub invariant-loop : goal.invariant-loop
invariant-loop l = l.count ≤ length l.data
