-- `word_at`: the sum of its eight bytes.
use native.Mathlib.Omega.{arith}
use Rattle.card_format.proofs.Words.{word_is}
use Rattle.card_words.proofs.word_at.Goals as goal

pub returns : goal.returns
returns c = rw word_is (omega (arith, c.from_le_bytes.ensures))
