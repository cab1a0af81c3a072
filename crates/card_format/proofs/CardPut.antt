-- A buffer that holds the card of a state, and what it held behind it: where the card's words were put, zeros up to the end of the last block, and the check words with them.
use mathlib.Core.Path.{◌≡◌, refl, sym, ap, ◌∙◌}
use mathlib.Core.List.{List, ◌++◌}
use Prim.Native.Nat.{ℕ, ◌+◌, ◌-◌, ◌*◌, ◌≤◌, ◌<◌}
use native.Mathlib.Decide.{dec_lt}
use native.Mathlib.Omega.{arith}
use lib.ListN.{length, get_or, drop, replicate, length-append, length-replicate, get_or-append, get_or-eq_default}
use Rattle.machine.specs.Counter.{CountedState}
use Rattle.card_format.specs.Writing.{entries, entry_count, block_count, card_length, rows_of_l, rows_of_u, header, words, card_word, card}
use Rattle.card_format.specs.WordsPut.{WordsFilled}
use Rattle.card_format.proofs.Entries.{rows_of_l_length, entries_length, append_at}
use Rattle.card_format.proofs.Blocks.{blocks_same}
use Rattle.card_format.proofs.Put.{zero_at, filled_then, blocks_put}

words_length : (P : CountedState ℕ) → length (words P) ≡ 63 + entry_count P.state.n
unfolding words header
words_length P = length-append (header P.state.n P.counter) (entries P.state) ∙ rw entries_length refl

module _ (P : CountedState ℕ) (rest : ℕ) (fills : 63 + entry_count P.state.n + rest ≡ 63 * block_count P.state.n) {old new : List ℕ}
    (h : WordsFilled 0 (words P ++ replicate rest 0) old new) where
  filled_word : (p : ℕ) → get_or (words P ++ replicate rest 0) p 0 ≡ card_word P p
  filled_word p = go (dec_lt p (length (words P)))
    where
      go : Dec (p < length (words P)) → get_or (words P ++ replicate rest 0) p 0 ≡ card_word P p
      go (yes l) = get_or-append (words P) (replicate rest 0) 0 p l
      go (no l) =
          let k = p - length (words P) in
          let e : length (words P) + k ≡ p = omega arith in
          ap (λ (x : ℕ). get_or (words P ++ replicate rest 0) x 0) (sym e)
          ∙ append_at (length (words P)) (words P) (replicate rest 0) k 0 refl
          ∙ zero_at rest k
          ∙ sym (get_or-eq_default (words P) 0 {n = p} (omega arith))

  pub card_put : card_length P.state.n ≤ length old → new ≡ card P ++ drop (card_length P.state.n) old
  unfolding card
  card_put room =
      let m = block_count P.state.n in
      let count : length (words P ++ replicate rest 0) ≡ 63 * m = length-append (words P) (replicate rest 0) ∙ omega (arith, words_length P, length-replicate {A = ℕ} rest 0) in
      blocks_put m count h room
      ∙ ap (λ (front : List ℕ). front ++ drop (card_length P.state.n) old) (blocks_same m (λ p. get_or (words P ++ replicate rest 0) p 0) (card_word P) (λ p l. filled_word p))

-- The parts of a card, one after another: header, L, U, zeros.
pub parts_put : (P : CountedState ℕ) (rest : ℕ) {a b c d e : List ℕ} → WordsFilled 0 (header P.state.n P.counter) a b → WordsFilled 63 (rows_of_l P.state.n P.state.L) b c
    → WordsFilled (63 + P.state.n * P.state.n) (rows_of_u P.state.n P.state.U) c d → WordsFilled (63 + entry_count P.state.n) (replicate rest 0) d e
    → WordsFilled 0 (words P ++ replicate rest 0) a e
unfolding words header entries
parts_put P rest first l u zeros =
    let n = P.state.n in
    let l_long : 63 + n * n ≡ 63 + length (rows_of_l n P.state.L) = omega (arith, rows_of_l_length n P.state.L) in
    let long : 63 + entry_count n ≡ 0 + length (header n P.counter ++ entries P.state) = omega (arith, words_length P) in
    filled_then (filled_then first (filled_then l (rw l_long at u))) (rw long at zeros)
