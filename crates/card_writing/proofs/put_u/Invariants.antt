-- `put_u`: the rows so far, where the next begins, and the running sum there.
use mathlib.Core.Path.{◌≡◌}
use Prim.Native.Nat.{◌+◌, ◌-◌}
use lib.Ieee.{binary64, to_bits}
use Rattle.machine.specs.Tables.{tabulate}
use Rattle.storage.proofs.Places.{row_start}
use Rattle.matrices.specs.Tables.{table_u}
use Rattle.card_format.specs.Writing.{rows}
use Rattle.card_format.specs.WordsPut.{WordsFilled, sum_before}
use Rattle.card_writing.proofs.put_u.Given as goal

abbrev pub invariant-loop-row : goal.invariant-loop-row
invariant-loop-row l =
    (l.next ≡ l.first + row_start l.u.n l.row)
    × WordsFilled l.first (rows l.row (λ i. tabulate (l.u.n - i) (λ j. to_bits binary64 (table_u l.u i (i + j))))) l.initial.card l.card
    × (l.sum ≡ sum_before l.card l.next)
