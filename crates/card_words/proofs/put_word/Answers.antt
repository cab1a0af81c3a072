-- `put_word`: the eight bytes stand in the part that they were copied to.
use Prim.Native.Nat.{◌+◌}
use native.Mathlib.Omega.{arith}
use mathlib.Core.Path.{refl, ◌∙◌}
use Rattle.card_words.proofs.Bytes.{word_put}
use Rattle.card_words.proofs.put_word.Goals as goal

pub returns : goal.returns
returns c = word_put c.args.at (c.args.at + 8) c.args.word c.args.bytes.now _ (omega (arith, c.ranges.word.fits)) refl (omega arith) (c.copy_from_slice.ensures.after ∙ c.to_le_bytes.ensures)
