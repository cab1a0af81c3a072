-- `read_run`: one value a turn.
use native.Mathlib.Omega.{arith}
use Rattle.card_reading.proofs.Runs.{run_all}
use Rattle.card_reading.proofs.read_run.Goals as goal

pub returns : goal.returns
returns c = run_all c.loop-k.invariant (omega arith)
