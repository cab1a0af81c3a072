-- What a refusal of a call on cards is in the numbers of documents 01 and 02.
use Rattle.std.specs.Prelude.{cond, ℕ, eqb, Option as Optional, Some, None}
use Rattle.machine.specs.Calls.{Answer, done, moved, refused, refused_at}
use Rattle.refusals.specs.Refusal as managed
use Rattle.cards.specs.declared.refusal.CardRefusal.{CardRefusal}
use Rattle.cards.specs.declared.refusal.CardRefusal.TheVariants as card

-- the number, and the block, for each case of `CardRefusal`
abbrev pub refusal_of : CardRefusal → Answer
refusal_of (card.Managed r) = managed.refusal_of r
refusal_of card.InvalidCardLength = refused 15
refusal_of (card.DamagedBlock block) = refused_at 16 block
refusal_of card.InvalidCard = refused 17

-- the block that comes with 16
abbrev pub block_of : Answer → Optional ℕ
block_of done = None
block_of (moved r k) = None
block_of (refused number) = None
block_of (refused_at number i) = cond (eqb number 16) (Some i) None
