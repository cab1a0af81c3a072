-- `read_u`: one row a turn.
use mathlib.Core.Path.{◌≡◌}
use native.Mathlib.Omega.{arith}
use Rattle.card_reading.proofs.Rows.{layout_u, row_read, u_read}
use Rattle.card_reading.proofs.read_u.Goals as goal

pub slice_bounds-read_values-end : goal.slice_bounds-read_values-end
slice_bounds-read_values-end c = omega (arith, layout_u.within c.args.stride c.loop-row.row (omega arith))

pub read_values-requires : goal.read_values-requires
read_values-requires c = omega (arith, layout_u.within c.args.n c.loop-row.row (omega arith))

pub loop-row-preserved : goal.loop-row-preserved
loop-row-preserved c =
    row_read c.loop-row.invariant c.read_values.ensures (omega arith) (omega arith) (omega arith) (omega arith) (omega arith) (omega arith)

pub returns : goal.returns
returns c = let all : c.loop-row.row ≡ c.args.n = omega arith in u_read (rw all at c.loop-row.invariant)
