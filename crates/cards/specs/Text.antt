-- What a refusal of a call on cards says in words: a managed call's in that one's.
use Rattle.std.specs.Prelude.{List, ◌++◌, ℕ, codes, decimal}
use Rattle.refusals.specs.Text as managed
use Rattle.cards.specs.declared.refusal.CardRefusal.{CardRefusal}
use Rattle.cards.specs.declared.refusal.CardRefusal.TheVariants as card

abbrev pub text_of : CardRefusal → List ℕ
text_of (card.Managed r) = managed.text_of r
text_of card.InvalidCardLength = codes "the card has the wrong length"
text_of (card.DamagedBlock block) = codes "the check of block " ++ (decimal block ++ codes " is wrong")
text_of card.InvalidCard = codes "the card is not in the format of cards"
