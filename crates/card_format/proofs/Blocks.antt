-- Laws of blocks: what stands at each place, and that blocks with right checks are determined by their words.
use mathlib.Core.Path.{◌≡◌, refl, sym, ap, ◌∙◌}
use mathlib.Core.List.{List}
use mathlib.Core.Logic.{⊎_elim}
use Prim.Native.Nat.{ℕ, ◌+◌, ◌*◌, ◌/◌, ◌%◌, ◌^◌, ◌<◌}
use native.Mathlib.Nat.{mod-eq_of_lt, eq-or-lt_of_le, le_of_suc-le-suc}
use native.Mathlib.Decide.{dec_lt}
use native.Mathlib.Omega.{arith}
use lib.Dec.{T, eqb→eq}
use lib.ListN.{length, get_or, get_or-eq_default}
use lib.Seq.{ext_get_or}
use lib.Ieee.Fits.{eq→eqb}
use borrow.Author.Tests.{lt-ltb}
use Rattle.machine.proofs.Choice.{tabulate_same, tabulate_length, tabulate_at}
use Rattle.card_format.specs.CardLaws.{AreBytes}
use Rattle.card_format.specs.Blocks.{check_word, block_word, block_byte, blocks, word_in, numbered}
use Rattle.card_format.specs.Reading.{checked}
use Rattle.card_format.proofs.Totals.{total_same}
use Rattle.card_format.proofs.Words.{byte_of_word, word_of_bytes}

-- ---- the words of a block

pub check_same : (b : ℕ) (f g : ℕ → ℕ) → ((k : ℕ) → k < 63 → f k ≡ g k) → check_word b f ≡ check_word b g
unfolding check_word
check_same b f g h = rw (total_same 63 f g h)

pub check_bound : (b : ℕ) (f : ℕ → ℕ) → check_word b f < 2 ^ 64
unfolding check_word
check_bound b f = omega arith

module _ (words : ℕ → ℕ) (b : ℕ) where
  pub block_word_is : (k : ℕ) → k < 63 → block_word words b k ≡ words (63 * b + k)
  unfolding block_word
  block_word_is k h = rw (lt-ltb k 63 h)

  pub block_check : block_word words b 63 ≡ check_word b (λ i. words (63 * b + i))
  unfolding block_word
  block_check = refl

  pub block_word_bound : ((p : ℕ) → words p < 2 ^ 64) → (k : ℕ) → k < 64 → block_word words b k < 2 ^ 64
  block_word_bound h k l =
      ⊎_elim
      (λ (e : k ≡ 63). rw (e, block_check) (check_bound b (λ i. words (63 * b + i))))
      (λ (l : k < 63). rw block_word_is (h (63 * b + k)))
      (eq-or-lt_of_le (le_of_suc-le-suc l))

-- ---- the places of blocks

-- a place by its block, its word and its byte
pub place_block : (b k i : ℕ) → k < 64 → i < 8 → (512 * b + 8 * k + i) / 512 ≡ b
place_block b k i hk hi = omega arith

pub place_word : (b k i : ℕ) → k < 64 → i < 8 → (512 * b + 8 * k + i) % 512 / 8 ≡ k
place_word b k i hk hi = omega arith

pub place_byte : (b k i : ℕ) → i < 8 → (512 * b + 8 * k + i) % 8 ≡ i
place_byte b k i hi = omega arith

pub place_is : (q : ℕ) → 512 * (q / 512) + 8 * (q % 512 / 8) + q % 8 ≡ q
place_is q = omega arith

module _ (m : ℕ) (words : ℕ → ℕ) where
  pub blocks_length : length (blocks m words) ≡ 512 * m
  unfolding blocks
  blocks_length = tabulate_length (512 * m) (block_byte words)

  pub blocks_at : (q : ℕ) → q < 512 * m → get_or (blocks m words) q 0 ≡ block_byte words q
  unfolding blocks
  blocks_at q h = tabulate_at (512 * m) (block_byte words) 0 q h

  pub blocks_byte : (b k i : ℕ) → b < m → k < 64 → i < 8 → get_or (blocks m words) (512 * b + 8 * k + i) 0 ≡ block_word words b k / 256 ^ i % 256
  unfolding block_byte
  blocks_byte b k i hb hk hi =
      blocks_at (512 * b + 8 * k + i) (omega arith) ∙ rw (place_block b k i hk hi, place_word b k i hk hi, place_byte b k i hi)

  pub blocks_word : (b k : ℕ) → b < m → k < 64 → word_in (blocks m words) b k ≡ block_word words b k % 2 ^ 64
  blocks_word b k hb hk = word_of_bytes (blocks m words) (512 * b + 8 * k) (block_word words b k) (λ i hi. blocks_byte b k i hb hk hi)

  pub blocks_bytes : AreBytes (blocks m words)
  unfolding block_byte
  blocks_bytes q = go (dec_lt q (512 * m))
    where
      go : Dec (q < 512 * m) → get_or (blocks m words) q 0 < 256
      go (yes h) = rw (blocks_at q h) (omega arith)
      go (no h) = rw (get_or-eq_default (blocks m words) 0 {n = q} (omega (arith, blocks_length))) (omega arith)

  module _ (bound : (p : ℕ) → words p < 2 ^ 64) where
    pub blocks_word_bound : (b k : ℕ) → b < m → k < 64 → word_in (blocks m words) b k ≡ block_word words b k
    blocks_word_bound b k hb hk = blocks_word b k hb hk ∙ mod-eq_of_lt (block_word_bound words b bound k hk)

    pub blocks_numbered : (p : ℕ) → p < 63 * m → numbered (word_in (blocks m words)) p ≡ words p
    blocks_numbered p h =
        let e : 63 * (p / 63) + p % 63 ≡ p = omega arith in
        blocks_word_bound (p / 63) (p % 63) (omega arith) (omega arith) ∙ block_word_is words (p / 63) (p % 63) (omega arith) ∙ ap words e

    pub blocks_checked : (b : ℕ) → b < m → T (checked (word_in (blocks m words)) b)
    unfolding checked
    blocks_checked b h =
        eq→eqb
        (blocks_word_bound b 63 h (omega arith)
        ∙ block_check words b
        ∙ check_same b (λ i. words (63 * b + i)) (word_in (blocks m words) b) (λ k l. sym (blocks_word_bound b k h (omega arith) ∙ block_word_is words b k l)))

  -- bytes that have every word of the blocks are the blocks
  pub blocks_by_words : (bytes : List ℕ) → AreBytes bytes → length bytes ≡ 512 * m
      → ((b k : ℕ) → b < m → k < 64 → word_in bytes b k ≡ block_word words b k) → bytes ≡ blocks m words
  unfolding block_byte
  blocks_by_words bytes fit long h =
      ext_get_or 0 bytes (blocks m words) (long ∙ sym blocks_length)
      (λ q l.
      ap (λ (x : ℕ). get_or bytes x 0) (sym (place_is q))
      ∙ byte_of_word bytes fit (512 * (q / 512) + 8 * (q % 512 / 8)) (q % 8) (omega arith)
      ∙ ap (λ (w : ℕ). w / 256 ^ (q % 8) % 256) (h (q / 512) (q % 512 / 8) (omega (arith, long)) (omega arith))
      ∙ sym (blocks_at q (omega (arith, long))))

block_word_same : (m : ℕ) (f g : ℕ → ℕ) → ((p : ℕ) → p < 63 * m → f p ≡ g p) → (b k : ℕ) → b < m → k < 64 → block_word f b k ≡ block_word g b k
block_word_same m f g h b k hb hk =
    ⊎_elim
    (λ (e : k ≡ 63). rw (e, block_check f b, block_check g b) (check_same b (λ i. f (63 * b + i)) (λ i. g (63 * b + i)) (λ i l. h (63 * b + i) (omega arith))))
    (λ (l : k < 63). block_word_is f b k l ∙ h (63 * b + k) (omega arith) ∙ sym (block_word_is g b k l))
    (eq-or-lt_of_le (le_of_suc-le-suc hk))

pub blocks_same : (m : ℕ) (f g : ℕ → ℕ) → ((p : ℕ) → p < 63 * m → f p ≡ g p) → blocks m f ≡ blocks m g
unfolding blocks block_byte
blocks_same m f g h =
    tabulate_same (512 * m) (block_byte f) (block_byte g)
    (λ q l. ap (λ (w : ℕ). w / 256 ^ (q % 8) % 256) (block_word_same m f g h (q / 512) (q % 512 / 8) (omega arith) (omega arith)))

-- word k of block b is the word numbered 63 × b + k
pub word_numbered : (bytes : List ℕ) (b k : ℕ) → k < 63 → numbered (word_in bytes) (63 * b + k) ≡ word_in bytes b k
word_numbered bytes b k h =
    let e : (63 * b + k) / 63 ≡ b = omega arith in
    let f : (63 * b + k) % 63 ≡ k = omega arith in
    rw (e, f)

-- bytes with right checks are the blocks of their words
pub blocks_of_words : (m : ℕ) (bytes : List ℕ) → AreBytes bytes → length bytes ≡ 512 * m
    → ((b : ℕ) → b < m → T (checked (word_in bytes) b)) → bytes ≡ blocks m (numbered (word_in bytes))
unfolding checked
blocks_of_words m bytes fit long h =
    blocks_by_words m (numbered (word_in bytes)) bytes fit long
    (λ b k hb hk.
    ⊎_elim
    (λ (e : k ≡ 63).
    rw (e, block_check)
    (eqb→eq (word_in bytes b 63) (check_word b (word_in bytes b)) (h b hb)
    ∙ check_same b (word_in bytes b) (λ i. numbered (word_in bytes) (63 * b + i)) (λ i l. sym (word_numbered bytes b i l))))
    (λ (l : k < 63). sym (block_word_is (numbered (word_in bytes)) b k l ∙ word_numbered bytes b k l))
    (eq-or-lt_of_le (le_of_suc-le-suc hk)))
