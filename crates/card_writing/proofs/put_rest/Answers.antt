-- `put_rest`: zeros, which fill the block, and its check word.
use mathlib.Core.Path.{◌≡◌, sym, ◌∙◌}
use Prim.Native.Nat.{ℕ, ◌+◌, ◌*◌, ◌/◌, ◌%◌}
use native.Mathlib.Omega.{arith}
use lib.ListN.{length, replicate, length-replicate}
use Rattle.card_format.specs.Blocks.{check_word, word_in}
use Rattle.card_format.proofs.Put.{filled, zeros_added}
use Rattle.card_writing.proofs.put_rest.Goals as goal

pub returns-then-count-gt0 : goal.returns-then-count-gt0
unfolding check_word
returns-then-count-gt0 c =
    let a = c.args in
    let block = a.first / 63 in
    let word = a.first % 63 in
    let at : a.first ≡ 63 * block + word = omega arith in
    let full : word + a.count ≡ 63 = omega (arith, c.requires.rest) in
    let long : length (replicate {A = ℕ} a.count 0) ≡ a.count = length-replicate {A = ℕ} a.count 0 in
    let same = zeros_added block word a.count (rw at at c.put_zeros.ensures) (omega arith) in
    let check : a.sum ≡ check_word block (word_in c.put_zeros.new.card block) = c.requires.sum ∙ sym (rw full at same) in
    filled {w = a.sum} c.put_zeros.ensures (omega (arith, full, long)) c.put_word.ensures check
