-- `add_word`: the sum with the word.
use native.Mathlib.Omega.{arith}
use Rattle.card_format.proofs.Put.{word_added}
use Rattle.card_writing.proofs.add_word.Goals as goal

pub returns-clause-sum : goal.returns-clause-sum
returns-clause-sum c = rw c.requires.sum (word_added c.args.block c.args.word (omega arith) c.put_word.ensures)
