-- What is known where the writer, or the reader, is refused nothing.
use mathlib.Core.Path.{◌≡◌, refl, ap, ◌∙◌}
use mathlib.Core.List.{List}
use mathlib.Core.Option.{none}
use Prim.Native.Nat.{ℕ, ◌≤◌, ◌<◌}
use native.Mathlib.Omega.{arith}
use lib.ListN.{length}
use Rattle.machine.specs.Calls.{refused}
use Rattle.machine.proofs.Refusals.{or_else_none}
use Rattle.managed.specs.Instance.{StateValue}
use Rattle.managed.specs.Refusals.{size_tests, storage_tests}
use Rattle.managed.proofs.Refusals.{StoragePassed, storage_passed}
use Rattle.card_format.specs.Blocks.{word_at, word_in}
use Rattle.card_format.specs.Writing.{card_length}
use Rattle.card_format.specs.Reading.{card_tests, patterns, reading}
use Rattle.card_format.specs.Answers.{answered, not_answered, answer_under}
use Rattle.card_format.proofs.Cards.{header_room}
use Rattle.card_format.proofs.Tests.{card_accepted}
use Rattle.card_calls.specs.CardCalls.{write_tests, read_tests}
use Rattle.card_calls.proofs.CardDemands.{answered_under, write_passed, within_capacity, beyond_capacity, last_test}

pub record WritePassed (v : StateValue) (l u buffer bytes : ℕ) : Type 0 where
  pub none_refused : write_tests v l u buffer ≡ none
  pub storage : StoragePassed v.n v.capacity l u
  pub needed : bytes ≡ card_length v.n
  pub room : bytes ≤ buffer

pub may_write : (v : StateValue) (l u buffer bytes : ℕ) → answered bytes ≡ answer_under (write_tests v l u buffer) (card_length v.n) → WritePassed v l u buffer bytes
may_write v l u buffer bytes e =
    let a = answered_under (write_tests v l u buffer) (card_length v.n) bytes e in
    let p = write_passed v l u buffer a.0 in
    record { none_refused = a.0; storage = storage_passed v.n v.capacity l u p.0; needed = a.1; room = omega (arith, a.1, p.1) }

pub record ReadPassed (capacity l u : ℕ) (card : List ℕ) (n : ℕ) : Type 0 where
  pub none_refused : read_tests capacity l u card ≡ none
  pub storage : StoragePassed n capacity l u
  pub dimension : n ≡ (reading card).state.n
  pub long : length card ≡ card_length n

pub may_read : (capacity l u : ℕ) (card : List ℕ) (n : ℕ) → answered n ≡ answer_under (read_tests capacity l u card) (reading card).state.n → ReadPassed capacity l u card n
unfolding read_tests patterns
may_read capacity l u card n e =
    let a = answered_under (read_tests capacity l u card) (reading card).state.n n e in
    let size = or_else_none (size_tests capacity l u) _ a.0 in
    let rest = or_else_none (card_tests card) _ size.1 in
    let storage : storage_tests n capacity l u ≡ none = rw a.1 (rw rest.1 size.0) in
    record { none_refused = a.0; storage = storage_passed n capacity l u storage; dimension = a.1; long = rw a.1 (card_accepted card rest.0).0 }

-- ---- a card that has passed its tests

-- its dimension, where the reader takes it from
pub dimension_is : (card : List ℕ) → word_at card 0 ≡ (reading card).state.n
unfolding patterns
dimension_is card = refl

pub whole_block : (card : List ℕ) → card_tests card ≡ none → 512 ≤ length card
whole_block card e = omega (arith, (card_accepted card e).0, header_room (word_in card 0 0))

module _ (capacity l u : ℕ) (card : List ℕ) (size : size_tests capacity l u ≡ none) (passed : card_tests card ≡ none) (n : ℕ) (is : n ≡ word_at card 0) where
  dimension : n ≡ (reading card).state.n
  dimension = is ∙ dimension_is card

  -- then its dimension is held to the capacity
  pub dimension_refused : capacity < n → not_answered (refused 1) ≡ answer_under (read_tests capacity l u card) (reading card).state.n
  dimension_refused h =
      let e = last_test capacity l u card size passed ∙ beyond_capacity (reading card).state.n capacity (omega (arith, dimension)) in
      rw e refl

  pub dimension_answered : n ≤ capacity → answered n ≡ answer_under (read_tests capacity l u card) (reading card).state.n
  dimension_answered h =
      let e = last_test capacity l u card size passed ∙ within_capacity (reading card).state.n capacity (omega (arith, dimension)) in
      rw e (ap answered dimension)
