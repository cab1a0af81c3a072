-- `put_l`: one more row a turn.
use mathlib.Core.Path.{◌≡◌, sym, ap, ◌∙◌}
use Prim.Native.Nat.{ℕ, ◌+◌, ◌*◌}
use native.Mathlib.Nat.{zero-mul}
use native.Mathlib.Omega.{arith}
use lib.Ieee.{binary64, to_bits}
use mathlib.Core.List.{map}
use lib.ListN.{length}
use Rattle.machine.specs.Tables.{tabulate}
use Rattle.matrices.specs.Tables.{table_l}
use Rattle.card_format.proofs.Entries.{places_l, tables_length}
use Rattle.card_format.proofs.Put.{none_put, sum_at_start}
use Rattle.card_format.specs.Writing.{rows}
use Rattle.card_writing.proofs.Runs.{row_put, map_tabulate}
use Rattle.card_writing.proofs.put_l.Goals as goal

pub loop-row-init : goal.loop-row-init
unfolding rows
loop-row-init c = (none_put 63 1 c.args.card.now, rw zero-mul (sym (sum_at_start c.args.card.now 1 (omega arith))))

pub loop-row-preserved : goal.loop-row-preserved
loop-row-preserved c =
    let i = c.loop-row.row in
    let n = c.args.l.n in
    let table : ℕ → ℕ → ℕ = λ i j. to_bits binary64 (table_l c.args.l i j) in
    let long : length (rows i (λ i. tabulate n (table i))) ≡ i * n = tables_length (places_l n) table i (omega arith) in
    let start : 63 + i * n ≡ 63 + length (rows i (λ i. tabulate n (table i))) = omega (arith, long) in
    let is_row : map (to_bits binary64) c.row.result.now ≡ tabulate n (table i) =
    ap (map (to_bits binary64)) c.row.ensures.entries ∙ map_tabulate (to_bits binary64) n (table_l c.args.l i) in
    let next : 63 + i * n + length c.row.result.now ≡ 63 + (i + 1) * n = omega (arith, c.row.ensures.long) in (
      row_put 63 (63 + i * n) i (λ i. tabulate n (table i)) _ start is_row c.loop-row.invariant.0 c.put_values-sum.ensures.words,
      rw next at c.put_values-sum.ensures.sum,
    )

pub returns : goal.returns
returns c =
    let e : c.loop-row.row ≡ c.args.l.n = omega arith in
    record { words = rw e at c.loop-row.invariant.0; sum = rw e at c.loop-row.invariant.1 }
