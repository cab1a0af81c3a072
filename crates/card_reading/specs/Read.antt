-- What the search for a wrong check answers, and what reading the entries of a card leaves in L and in U.
use Rattle.std.specs.Prelude.{◌≡◌, List, ℕ, ◌+◌, ◌*◌, ◌≤◌, ◌<◌, Option as Optional, Some, None, Float}
use Rattle.std.proofs.Math.Option.{Option, none, some}
use Rattle.std.specs.Float.{binary64}
use Rattle.std.specs.Float.Ieee.{of_bits}
use Rattle.numbers.specs.NumberForm.{ieee}
use Rattle.machine.specs.Calls.{Answer, refused_at}
use Rattle.storage.specs.Places.{l_index, u_index, LPlace, UPlace}
use Rattle.storage.specs.Views.{view_l, view_u, Kept}
use Rattle.card_format.specs.Blocks.{word_in}
use Rattle.card_format.specs.Reading.{entry_word}

-- 16 with the block that was found
abbrev pub check_refusal : Optional ℕ → Option Answer
check_refusal None = none
check_refusal (Some block) = some (refused_at 16 block)

-- the double whose bits are the entry numbered q of a card
abbrev pub entry_of : List ℕ → ℕ → Float
entry_of card q = of_bits binary64 (entry_word (word_in card) q)

-- L at a stride holds the card's entries at dimension n, and all else of its buffer is as it was
pub record LRead (stride n : ℕ) (card : List ℕ) (l l' : List Float) : Type 0 where
  pub value : (i j : ℕ) → i < n → j < n → view_l (ieee binary64) stride l' i j ≡ entry_of card (l_index n i j)
  pub kept : Kept (ieee binary64) (LPlace stride n) l l'

-- the same of U
pub record URead (stride n : ℕ) (card : List ℕ) (u u' : List Float) : Type 0 where
  pub value : (i j : ℕ) → i ≤ j → j < n → view_u (ieee binary64) stride u' i j ≡ entry_of card (n * n + u_index n i j)
  pub kept : Kept (ieee binary64) (UPlace stride n) u u'
