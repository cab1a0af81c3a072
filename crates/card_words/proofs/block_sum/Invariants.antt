-- `block_sum`: the sum of the words so far and the block's number, which wraps.
use mathlib.Core.Path.{◌≡◌}
use Prim.Native.Nat.{◌+◌, ◌%◌, ◌^◌}
use Rattle.card_format.specs.Blocks.{total, word_in}
use Rattle.card_words.proofs.block_sum.Given as goal

abbrev pub invariant-loop-k : goal.invariant-loop-k
invariant-loop-k l = l.sum ≡ (l.block + total l.k (word_in l.card l.block)) % 2 ^ 64
