-- Damage to one word of one block is found, and 16 names that block.
use mathlib.Core.Path.{◌≡◌, sym, ap, ◌∙◌}
use mathlib.Core.Bool.{false}
use mathlib.Core.List.{List}
use mathlib.Core.Logic.{◌≢◌, ◌⊎◌, inl, inr, ⊎_elim}
use mathlib.Core.Option.{none, some}
use Prim.Native.Nat.{ℕ, ◌+◌, ◌*◌, ◌/◌, ◌%◌, ◌^◌, ◌≤◌, ◌<◌}
use native.Mathlib.Nat.{eq-or-lt_of_le, le_of_suc-le-suc}
use native.Mathlib.Decide.{dec_lt}
use native.Mathlib.Omega.{arith}
use lib.Dec.{T, eqb→eq}
use lib.ListN.{length}
use lib.Ieee.Fits.{eq→eqb}
use Rattle.machine.specs.Calls.{refused_at}
use Rattle.card_format.specs.Blocks.{total, check_word, word_in}
use Rattle.card_format.specs.Writing.{block_count}
use Rattle.card_format.specs.Reading.{no_whole_blocks, checked, word_tests, card_tests}
use Rattle.card_format.proofs.Totals.{total_changed}
use Rattle.card_format.specs.CardLaws.{AreBytes, Damaged}
use Rattle.card_format.proofs.Words.{word_bound, byte_of_word, word_same}
use Rattle.card_format.proofs.Blocks.{check_same}
use Rattle.card_format.proofs.Tests.{lowest_named, no_part, card_accepted}

-- sums that differ in one word do not wrap to one number
wrapped : (b s s' v v' : ℕ) → v < 2 ^ 64 → v' < 2 ^ 64 → s' + v ≡ s + v' → (b + s) % 2 ^ 64 ≡ (b + s') % 2 ^ 64 → v ≡ v'
wrapped b s s' v v' h h' e f = omega arith

module _ (old new : List ℕ) (fit : AreBytes old) (fit' : AreBytes new) (b k : ℕ) (damaged : Damaged b k old new) where
  word_changed : word_in new b k ≢ word_in old b k
  word_changed e =
      damaged.changed
      (byte_of_word new fit' (512 * b + 8 * k) damaged.place damaged.within
      ∙ ap (λ (w : ℕ). w / 256 ^ damaged.place % 256) e
      ∙ sym (byte_of_word old fit (512 * b + 8 * k) damaged.place damaged.within))

  -- the other words of the block, and the blocks below it
  other_word : (i : ℕ) → i ≢ k → word_in new b i ≡ word_in old b i
  other_word i h = word_same old new (512 * b + 8 * i) (λ j l. damaged.elsewhere (512 * b + 8 * i + j) (go j l (dec_lt i k)))
    where
      go : (j : ℕ) → j < 8 → Dec (i < k) → (512 * b + 8 * i + j < 512 * b + 8 * k) ⊎ (512 * b + 8 * k + 8 ≤ 512 * b + 8 * i + j)
      go j l (yes m) = inl (omega arith)
      go j l (no m) = inr (omega arith)

  lower_word : (a i : ℕ) → a < b → i < 64 → word_in new a i ≡ word_in old a i
  lower_word a i h l = word_same old new (512 * a + 8 * i) (λ j m. damaged.elsewhere (512 * a + 8 * i + j) (inl (omega arith)))

  lower_checked : (a : ℕ) → a < b → T (checked (word_in old) a) → T (checked (word_in new) a)
  unfolding checked
  lower_checked a h t =
      eq→eqb
      (lower_word a 63 h (omega arith)
      ∙ eqb→eq (word_in old a 63) (check_word a (word_in old a)) t
      ∙ check_same a (word_in old a) (word_in new a) (λ i l. sym (lower_word a i h (omega arith))))

  -- the block's check is wrong
  pub damage_found : k < 64 → T (checked (word_in old) b) → ¬ T (checked (word_in new) b)
  unfolding checked check_word
  damage_found h t t' =
      let e : word_in old b 63 ≡ check_word b (word_in old b) = eqb→eq (word_in old b 63) (check_word b (word_in old b)) t in
      let e' : word_in new b 63 ≡ check_word b (word_in new b) = eqb→eq (word_in new b 63) (check_word b (word_in new b)) t' in
      ⊎_elim
      (λ (p : k ≡ 63).
      word_changed
      (rw p (e' ∙ check_same b (word_in new b) (word_in old b) (λ i l. other_word i (λ q. omega arith)) ∙ sym e)))
      (λ (l : k < 63).
      word_changed
      (wrapped b (total 63 (word_in new b)) (total 63 (word_in old b)) (word_in new b k) (word_in old b k) (word_bound new fit' _) (word_bound old fit _)
      (sym (total_changed 63 k (word_in new b) (word_in old b) l (λ i m q. other_word i q)))
      (sym e' ∙ other_word 63 (λ q. omega arith) ∙ e)))
      (eq-or-lt_of_le (le_of_suc-le-suc h))

  -- 16 names it, where the blocks up to it were sound
  pub damage_named : (m : ℕ) → length old ≡ 512 * m → b < m → k < 64 → ((a : ℕ) → a ≤ b → T (checked (word_in old) a)) → card_tests new ≡ some (refused_at 16 b)
  unfolding card_tests word_tests
  damage_named m long hb hk sound =
      let whole : no_whole_blocks (length new) ≡ false = no_part (length new) m (damaged.long ∙ long) (omega arith) in
      let e : length new / 512 ≡ m = omega (arith, long, damaged.long) in
      rw (
        whole,
        lowest_named (word_in new) (length new / 512) b (omega arith) (λ a l. lower_checked a l (sound a (omega arith))) (damage_found hk (sound b (omega arith))),
      )

  -- and so in a card that was accepted
  pub damage_refused : card_tests old ≡ none → 512 * b < length old → k < 64 → card_tests new ≡ some (refused_at 16 b)
  damage_refused e hb hk =
      let a = card_accepted old e in
      let l : b < block_count (word_in old 0 0) = omega (arith, a.0) in
      damage_named (block_count (word_in old 0 0)) a.0 l hk (λ i h. a.1.checks i (omega arith))
