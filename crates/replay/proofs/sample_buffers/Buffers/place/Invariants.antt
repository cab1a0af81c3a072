-- `place`: a row takes at most 15 entries of what is left of its storage, and there are at most 15 rows.
use Rattle.std.proofs.Common.{◌≤◌, ◌+◌, ◌*◌, length}
use Rattle.replay.proofs.sample_buffers.Buffers.place.Given as goal

abbrev pub invariant-loop-row : goal.invariant-loop-row
invariant-loop-row l = (256 ≤ length l.l + 15 * l.row) × (256 ≤ length l.u + 15 * l.row)
