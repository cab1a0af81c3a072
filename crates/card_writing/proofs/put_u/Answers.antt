-- `put_u`: one more row a turn.
use mathlib.Core.Path.{◌≡◌, ap, ◌∙◌}
use Prim.Native.Nat.{ℕ, ◌+◌, ◌-◌, ◌/◌}
use native.Mathlib.Nat.{add-zero}
use native.Mathlib.Numerals.{add-one}
use native.Mathlib.Omega.{arith}
use lib.Ieee.{binary64, to_bits}
use mathlib.Core.List.{map}
use lib.ListN.{length}
use Rattle.machine.specs.Tables.{tabulate}
use Rattle.storage.specs.Places.{u_length}
use Rattle.storage.proofs.Places.{row_start, row_suc, rows_end}
use Rattle.matrices.specs.Tables.{table_u}
use Rattle.card_format.proofs.Entries.{places_u, row_room, tables_length}
use Rattle.card_format.proofs.Put.{none_put}
use Rattle.card_format.specs.Writing.{rows}
use Rattle.card_writing.proofs.Runs.{row_put, map_tabulate}
use Rattle.card_writing.proofs.put_u.Goals as goal

pub put_values-sum-requires-clause-room : goal.put_values-sum-requires-clause-room
put_values-sum-requires-clause-room c = omega (arith, c.loop-row.invariant.0, row_room c.args.u.n c.loop-row.row (omega arith))

pub overflow_add-next : goal.overflow_add-next
overflow_add-next c = omega (arith, c.loop-row.invariant.0, row_room c.args.u.n c.loop-row.row (omega arith), c.row-values.ensures.long)

pub loop-row-init : goal.loop-row-init
unfolding rows row_start
loop-row-init c = (omega arith, rw add-zero (none_put c.args.first (c.args.first / 63) c.args.card.now), c.requires.sum)

pub loop-row-preserved : goal.loop-row-preserved
loop-row-preserved c =
    let i = c.loop-row.row in
    let n = c.args.u.n in
    let table : ℕ → ℕ → ℕ = λ i j. to_bits binary64 (table_u c.args.u i (i + j)) in
    let long : length (rows i (λ i. tabulate (n - i) (table i))) ≡ row_start n i = tables_length (places_u n) table i (omega arith) in
    let start : c.loop-row.next ≡ c.args.first + length (rows i (λ i. tabulate (n - i) (table i))) = omega (arith, long, c.loop-row.invariant.0) in
    let is_row : map (to_bits binary64) c.row-values.result.now ≡ tabulate (n - i) (table i) =
    ap (map (to_bits binary64)) c.row-values.ensures.entries ∙ map_tabulate (to_bits binary64) (n - i) (λ j. table_u c.args.u i (i + j)) in (
      rw add-one (omega (arith, row_suc n i (omega arith), c.loop-row.invariant.0)),
      row_put c.args.first c.loop-row.next i (λ i. tabulate (n - i) (table i)) _ start is_row c.loop-row.invariant.1 c.put_values-sum.ensures.words,
      c.put_values-sum.ensures.sum,
    )

pub returns : goal.returns
returns c =
    let e : c.loop-row.row ≡ c.args.u.n = omega arith in
    let all : row_start c.args.u.n c.loop-row.row ≡ u_length c.args.u.n = rw e (rows_end c.args.u.n) in
    let next : c.loop-row.next ≡ c.args.first + u_length c.args.u.n = omega (arith, c.loop-row.invariant.0, all) in
    record { words = rw e at c.loop-row.invariant.1; sum = rw next at c.loop-row.invariant.2 }
