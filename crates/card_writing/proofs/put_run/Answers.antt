-- `put_run`: a block that is filled, and one that is left open.
use mathlib.Core.Path.{◌≡◌, sym}
use Prim.Native.Nat.{◌+◌, ◌*◌, ◌/◌}
use native.Mathlib.Omega.{arith}
use lib.Ieee.{binary64, to_bits}
use lib.ListN.{length}
use mathlib.Core.List.{map}
use Rattle.std.proofs.lemmas.List.{length-map}
use Rattle.card_format.specs.Blocks.{check_word, word_in}
use Rattle.card_format.proofs.Put.{filled, sum_at_start}
use Rattle.card_writing.proofs.put_run.Goals as goal

pub returns : goal.returns
unfolding check_word
returns c =
    let a = c.args in
    let first = 63 * a.block + a.word in
    let long : length (map (to_bits binary64) a.values.now) ≡ length a.values.now = length-map a.values.now (to_bits binary64) in
    let full : a.word + length a.values.now ≡ 63 = omega arith in
    let block : first / 63 ≡ a.block = omega arith in
    let next : first + length a.values.now ≡ 63 * (a.block + 1) = omega arith in
    let check : c.put_words-sum.result ≡ check_word a.block (word_in c.put_words-sum.new.card a.block) = rw full at c.put_words-sum.ensures.sum in
    record {
      words = filled {w = c.put_words-sum.result} c.put_words-sum.ensures.words (omega (arith, long)) (rw block c.put_word.ensures) (rw block check);
      sum = rw next (sym (sum_at_start c.put_word.new.bytes (a.block + 1) (omega arith)));
    }
