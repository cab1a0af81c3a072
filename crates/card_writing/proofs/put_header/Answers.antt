-- `put_header`: three words, then zeros and the check word.
use Prim.Native.Nat.{◌+◌}
use native.Mathlib.Omega.{arith}
use Rattle.machine.specs.Counter.{capped}
use Rattle.card_format.specs.Blocks.{total}
use Rattle.card_format.specs.Writing.{block_count, header}
use Rattle.card_format.specs.WordsPut.{WordPut, place}
use Rattle.card_format.proofs.Put.{one_put, put_more, left_open, filled_then}
use Rattle.card_writing.proofs.put_header.Goals as goal

pub add_word-sum-requires-clause-sum : goal.add_word-sum-requires-clause-sum
unfolding total
add_word-sum-requires-clause-sum c = omega arith

pub returns : goal.returns
unfolding header
returns c =
    let a = c.args in
    let count : WordPut (place (0 + 1)) (block_count a.n) c.add_word-sum.new.card c.add_word-sum-2.new.card = rw c.requires.0 at c.add_word-sum-2.ensures.word in
    let counter : WordPut (place (0 + 2)) (capped a.counter) c.add_word-sum-2.new.card c.add_word-sum-3.new.card = rw c.counted.ensures at c.add_word-sum-3.ensures.word in
    filled_then (left_open (put_more (put_more (one_put {first = 0} c.add_word-sum.ensures.word) count) counter) (omega arith)) c.put_rest.ensures
