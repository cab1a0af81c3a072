-- `put_card`: header, L, U, zeros and check words, one after another.
use mathlib.Core.Path.{◌≡◌}
use Prim.Native.Nat.{◌+◌, ◌-◌, ◌*◌, ◌/◌}
use native.Mathlib.Omega.{arith}
use Rattle.storage.specs.Places.{u_length}
use Rattle.matrices.specs.Tables.{state_held}
use Rattle.card_format.specs.Writing.{entry_count, block_count, patterns_of, writing}
use Rattle.card_format.proofs.Cards.{entry_room}
use Rattle.card_format.proofs.CardPut.{card_put, parts_put}
use Rattle.card_writing.proofs.put_card.Goals as goal

pub put_header-requires : goal.put_header-requires
put_header-requires c = (omega (arith, c.requires.1), omega (arith, c.requires.1, entry_room c.args.l.n))

pub put_l-sum-requires : goal.put_l-sum-requires
put_l-sum-requires c = omega (arith, c.put_header.ensures.long, c.requires.1, c.requires.2, entry_room c.args.l.n)

pub put_u-sum-requires-clause-room : goal.put_u-sum-requires-clause-room
put_u-sum-requires-clause-room c =
    rw c.requires.0 (omega (arith, c.put_header.ensures.long, c.put_l-sum.ensures.words.long, c.requires.1, c.requires.2, entry_room c.args.l.n))

pub overflow_sub-blocks : goal.overflow_sub-blocks
overflow_sub-blocks c = omega (arith, c.entry_count-entries.ensures, c.requires.1, entry_room c.args.l.n)

pub put_rest-requires-clause-rest : goal.put_rest-requires-clause-rest
unfolding block_count
put_rest-requires-clause-rest c = omega (arith, c.entry_count-entries.ensures, c.requires.1, entry_room c.args.l.n)

pub put_rest-requires-clause-room : goal.put_rest-requires-clause-room
put_rest-requires-clause-room c =
    omega (
      arith,
      c.put_header.ensures.long,
      c.put_l-sum.ensures.words.long,
      c.put_u-sum.ensures.words.long,
      c.entry_count-entries.ensures,
      c.requires.1,
      c.requires.2,
      entry_room c.args.l.n,
    )

pub put_rest-requires-clause-sum : goal.put_rest-requires-clause-sum
put_rest-requires-clause-sum c =
    let n = c.args.l.n in
    let at : 63 + n * n + u_length n ≡ 63 + c.entry_count-entries.result = omega (arith, c.entry_count-entries.ensures) in
    rw at at (rw c.requires.0 at c.put_u-sum.ensures.sum)

pub returns : goal.returns
unfolding writing
returns c =
    let a = c.args in
    let P = patterns_of (record { state = state_held a.l a.u; counter = a.counter }) in
    let n = a.l.n in
    let rest = 63 * (a.bytes / 512) - (63 + entry_count n) in
    let fills : 63 + entry_count n + rest ≡ 63 * block_count n = omega (arith, c.requires.1, c.entry_count-entries.ensures, entry_room n) in
    let u = rw c.requires.0 at c.put_u-sum.ensures.words in
    let zeros = rw c.entry_count-entries.ensures at c.put_rest.ensures in
    card_put P rest fills (parts_put P rest c.put_header.ensures c.put_l-sum.ensures.words u zeros) (omega (arith, c.requires.1, c.requires.2))
