-- The tests of a card one after another: each refusal where it is the first, and none where all are passed.
use mathlib.Core.Path.{◌≡◌, refl}
use mathlib.Core.Bool.{true, false}
use mathlib.Core.List.{List}
use mathlib.Core.Option.{none, some}
use Prim.Native.Nat.{ℕ, ◌/◌}
use lib.ListN.{length}
use Rattle.machine.specs.Calls.{Answer, refused}
use Rattle.card_format.specs.Blocks.{word_in}
use Rattle.card_format.specs.Reading.{no_whole_blocks, wrong_check, in_format, word_tests, card_tests}

module _ (card : List ℕ) where
  pub length_refused : no_whole_blocks (length card) ≡ true → some (refused 15) ≡ card_tests card
  unfolding card_tests
  length_refused e = rw e refl

  module _ (whole : no_whole_blocks (length card) ≡ false) where
    pub check_refused : (a : Answer) → wrong_check (word_in card) (length card / 512) ≡ some a → some a ≡ card_tests card
    unfolding card_tests word_tests
    check_refused a e = rw (whole, e) refl

    module _ (right : wrong_check (word_in card) (length card / 512) ≡ none) where
      pub format_refused : in_format (word_in card) (length card / 512) ≡ false → some (refused 17) ≡ card_tests card
      unfolding card_tests word_tests
      format_refused e = rw (whole, right, e) refl

      pub card_accepted : in_format (word_in card) (length card / 512) ≡ true → none ≡ card_tests card
      unfolding card_tests word_tests
      card_accepted e = rw (whole, right, e) refl
