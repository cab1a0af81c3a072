-- `put_l`: the rows so far, and the running sum behind them.
use mathlib.Core.Path.{◌≡◌}
use Prim.Native.Nat.{◌+◌, ◌*◌}
use lib.Ieee.{binary64, to_bits}
use Rattle.machine.specs.Tables.{tabulate}
use Rattle.matrices.specs.Tables.{table_l}
use Rattle.card_format.specs.Writing.{rows}
use Rattle.card_format.specs.WordsPut.{WordsFilled, sum_before}
use Rattle.card_writing.proofs.put_l.Given as goal

abbrev pub invariant-loop-row : goal.invariant-loop-row
invariant-loop-row l =
    WordsFilled 63 (rows l.row (λ i. tabulate l.l.n (λ j. to_bits binary64 (table_l l.l i j)))) l.initial.card l.card
    × (l.sum ≡ sum_before l.card (63 + l.row * l.l.n))
