-- Laws of the card of a state whose entries are words: each word by its number, and that a card is determined by its words.
use mathlib.Core.Path.{◌≡◌, refl, sym, ◌∙◌}
use mathlib.Core.List.{List, ◌∷◌, ◌++◌}
use Prim.Native.Nat.{ℕ, zero, suc, ◌+◌, ◌-◌, ◌*◌, ◌^◌, ◌≤◌, ◌<◌}
use native.Mathlib.Nat.{mul-le-mul}
use native.Mathlib.Decide.{dec_lt}
use native.Mathlib.Omega.{arith}
use lib.Dec.{T}
use lib.ListN.{length, get_or, replicate, get_or-append, get_or-replicate, get_or-eq_default}
use lib.Seq.{get_or-append-add}
use Rattle.machine.specs.Counter.{capped, CountedState, as_counted}
use Rattle.machine.specs.Agreement.{AgreeCounted}
use Rattle.storage.specs.Places.{l_index, u_index}
use Rattle.storage.proofs.Places.{l_index_within, u_index_within}
use Rattle.card_format.specs.CardLaws.{AreBytes}
use Rattle.card_format.specs.Blocks.{word_in, numbered, blocks}
use Rattle.card_format.specs.Writing.{entries, entry_count, block_count, card_length, header, words, card_word, card}
use Rattle.card_format.specs.Reading.{checked, patterns}
use Rattle.card_format.proofs.Blocks.{blocks_length, blocks_bytes, blocks_same, blocks_numbered, blocks_checked, blocks_of_words}
use Rattle.card_format.proofs.Entries.{entries_length, entry_L, entry_U, entries_every, entries_same}

-- ---- the blocks have room for all words

pub header_room : (n : ℕ) → 63 ≤ 63 * block_count n
unfolding block_count
header_room n = omega arith

pub entry_room : (n : ℕ) → 63 + entry_count n ≤ 63 * block_count n
unfolding block_count
entry_room n = omega arith

-- ---- each word

module _ (P : CountedState ℕ) where
  pub word_dimension : card_word P 0 ≡ P.state.n
  unfolding words header
  word_dimension = refl

  pub word_count : card_word P 1 ≡ block_count P.state.n
  unfolding words header
  word_count = refl

  pub word_counter : card_word P 2 ≡ capped P.counter
  unfolding words header
  word_counter = refl

  pub word_unused : (k : ℕ) → k < 60 → card_word P (3 + k) ≡ 0
  unfolding words header
  word_unused k h =
      let e : 3 + k ≡ suc (suc (suc k)) = omega arith in
      rw e (get_or-append (replicate 60 0) (entries P.state) 0 k h ∙ get_or-replicate 60 k 0 0 h)

  word_entry : (q : ℕ) → card_word P (63 + q) ≡ get_or (entries P.state) q 0
  unfolding words header
  word_entry q = get_or-append-add (header P.state.n P.counter) (entries P.state) q 0

  pub word_L : (i j : ℕ) → i < P.state.n → j < P.state.n → card_word P (63 + l_index P.state.n i j) ≡ P.state.L i j
  word_L i j hi hj = word_entry (l_index P.state.n i j) ∙ entry_L P.state 0 i j hi hj

  pub word_U : (i j : ℕ) → i ≤ j → j < P.state.n → card_word P (63 + (P.state.n * P.state.n + u_index P.state.n i j)) ≡ P.state.U i j
  word_U i j hi hj = word_entry (P.state.n * P.state.n + u_index P.state.n i j) ∙ entry_U P.state 0 i j hi hj

  pub word_rest : (k : ℕ) → card_word P (63 + (entry_count P.state.n + k)) ≡ 0
  word_rest k = word_entry (entry_count P.state.n + k) ∙ get_or-eq_default (entries P.state) 0 {n = entry_count P.state.n + k} (omega (arith, entries_length P.state))

-- numbered words that are those of a state's card
pub record Holds (P : CountedState ℕ) (word : ℕ → ℕ) : Type 0 where
  pub dimension : word 0 ≡ P.state.n
  pub count : word 1 ≡ block_count P.state.n
  pub counter : word 2 ≡ capped P.counter
  pub unused : (k : ℕ) → k < 60 → word (3 + k) ≡ 0
  pub L : (i j : ℕ) → i < P.state.n → j < P.state.n → word (63 + l_index P.state.n i j) ≡ P.state.L i j
  pub U : (i j : ℕ) → i ≤ j → j < P.state.n → word (63 + (P.state.n * P.state.n + u_index P.state.n i j)) ≡ P.state.U i j
  pub rest : (k : ℕ) → 63 + (entry_count P.state.n + k) < 63 * block_count P.state.n → word (63 + (entry_count P.state.n + k)) ≡ 0

-- what holds of words 0 to 2, of the unused words, of each entry and of each word behind them holds of every word
every_word : (n : ℕ) (Q : ℕ → Type 0) → Q 0 → Q 1 → Q 2 → ((k : ℕ) → k < 60 → Q (3 + k))
    → ((q : ℕ) → q < entry_count n → Q (63 + q)) → ((k : ℕ) → Q (63 + (entry_count n + k))) → (p : ℕ) → Q p
every_word n Q dimension count counter unused entry rest zero = dimension
every_word n Q dimension count counter unused entry rest (suc zero) = count
every_word n Q dimension count counter unused entry rest (suc (suc zero)) = counter
every_word n Q dimension count counter unused entry rest (suc (suc (suc p))) = go (dec_lt p 60) (dec_lt p (60 + entry_count n))
  where
    go : Dec (p < 60) → Dec (p < 60 + entry_count n) → Q (suc (suc (suc p)))
    go (yes h) d = let e : 3 + p ≡ suc (suc (suc p)) = omega arith in rw e at (unused p h)
    go (no h) (yes l) = let e : 63 + (p - 60) ≡ suc (suc (suc p)) = omega arith in rw e at (entry (p - 60) (omega arith))
    go (no h) (no l) = let e : 63 + (entry_count n + (p - (60 + entry_count n))) ≡ suc (suc (suc p)) = omega arith in rw e at (rest (p - (60 + entry_count n)))

-- they are the card's words
pub words_unique : (P : CountedState ℕ) (word : ℕ → ℕ) → Holds P word → (p : ℕ) → p < 63 * block_count P.state.n → word p ≡ card_word P p
words_unique P word h =
    every_word P.state.n (λ p. p < 63 * block_count P.state.n → word p ≡ card_word P p)
    (λ l. h.dimension ∙ sym (word_dimension P))
    (λ l. h.count ∙ sym (word_count P))
    (λ l. h.counter ∙ sym (word_counter P))
    (λ k r l. h.unused k r ∙ sym (word_unused P k r))
    (λ q r l. entries_every P.state (λ q x. word (63 + q) ≡ x) 0 h.L h.U q r ∙ sym (word_entry P q))
    (λ k l. h.rest k l ∙ sym (word_rest P k))

-- what holds of each active entry holds of every word that is an entry
pub every_entry : (P : CountedState ℕ) (word : ℕ → ℕ) → Holds P word → (Q : ℕ → Type 0) → ((i j : ℕ) → i < P.state.n → j < P.state.n → Q (P.state.L i j))
    → ((i j : ℕ) → i ≤ j → j < P.state.n → Q (P.state.U i j))
    → (q : ℕ) → q < entry_count P.state.n → Q (word (63 + q))
every_entry P word h Q hL hU q l =
    rw (words_unique P word h (63 + q) (omega (arith, entry_room P.state.n)), word_entry P q) (entries_every P.state (λ q x. Q x) 0 hL hU q l)

-- ---- bounds

-- words of 64 bits, the number of blocks too
pub record Bounded (P : CountedState ℕ) : Type 0 where
  pub count : block_count P.state.n < 2 ^ 64
  pub L : (i j : ℕ) → i < P.state.n → j < P.state.n → P.state.L i j < 2 ^ 64
  pub U : (i j : ℕ) → i ≤ j → j < P.state.n → P.state.U i j < 2 ^ 64

-- a number whose square is below that of another
below_square : (n k bound : ℕ) → n * n < bound → bound ≤ k * k → n < k
below_square n k bound h r = go (dec_lt n k)
  where
    go : Dec (n < k) → n < k
    go (yes l) = l
    go (no l) = let g : k ≤ n = omega arith in absurd (omega (arith, mul-le-mul g g))

dimension_fits : (n : ℕ) → block_count n < 2 ^ 64 → n < 2 ^ 64
unfolding block_count
dimension_fits n h = let l : n < 2 ^ 36 = below_square n (2 ^ 36) (2 ^ 71) (omega arith) (omega arith) in omega arith

-- The number of blocks of a dimension that storage can have.
pub count_bound : (n : ℕ) → n < 2 ^ 32 → block_count n < 2 ^ 64
unfolding block_count
count_bound n h = let l : n ≤ 2 ^ 32 - 1 = omega arith in omega (arith, mul-le-mul l l)

-- From 2^31 on no card has a length that fits in 64 bits, and so none that is lent is long enough.
pub dimension_bound : (n : ℕ) → card_length n < 2 ^ 64 → n < 2 ^ 31
unfolding block_count
dimension_bound n h = below_square n (2 ^ 31) (2 ^ 62) (omega arith) (omega arith)

pub word_bound : (P : CountedState ℕ) → Bounded P → (p : ℕ) → card_word P p < 2 ^ 64
word_bound P h =
    every_word P.state.n (λ p. card_word P p < 2 ^ 64)
    (rw word_dimension (dimension_fits P.state.n h.count))
    (rw word_count h.count)
    (rw word_counter (omega arith))
    (λ k l. rw (word_unused P k l) (omega arith))
    (λ q l. rw word_entry (entries_every P.state (λ q x. x < 2 ^ 64) 0 h.L h.U q l))
    (λ k. rw word_rest (omega arith))

-- ---- the card

pub card_long : (P : CountedState ℕ) → length (card P) ≡ card_length P.state.n
unfolding card
card_long P = blocks_length (block_count P.state.n) (card_word P)

pub card_bytes : (P : CountedState ℕ) → AreBytes (card P)
unfolding card
card_bytes P = blocks_bytes (block_count P.state.n) (card_word P)

-- states that agree, the counters as they count, have equal cards
words_same : (P R : CountedState ℕ) → AgreeCounted (as_counted P) (as_counted R) → words P ≡ words R
unfolding words header
words_same P R h =
    λ t. (h.state.n t ∷ block_count (h.state.n t) ∷ h.counter t ∷ replicate 60 0) ++ entries_same P.state R.state h.state t

pub card_same : (P R : CountedState ℕ) → AgreeCounted (as_counted P) (as_counted R) → card P ≡ card R
unfolding card
card_same P R h = λ t. blocks (block_count (h.state.n t)) (λ p. get_or (words_same P R h t) p 0)

-- bytes with the card's words and right checks are the card
pub card_by_numbers : (P : CountedState ℕ) (bytes : List ℕ) → AreBytes bytes → length bytes ≡ 512 * block_count P.state.n
    → ((p : ℕ) → p < 63 * block_count P.state.n → numbered (word_in bytes) p ≡ card_word P p) → ((b : ℕ) → b < block_count P.state.n → T (checked (word_in bytes) b))
    → bytes ≡ card P
unfolding card
card_by_numbers P bytes fit long h sound =
    blocks_of_words (block_count P.state.n) bytes fit long sound ∙ blocks_same (block_count P.state.n) (numbered (word_in bytes)) (card_word P) h

pub card_by_words : (P : CountedState ℕ) (bytes : List ℕ) → AreBytes bytes → length bytes ≡ 512 * block_count P.state.n → Holds P (numbered (word_in bytes))
    → ((b : ℕ) → b < block_count P.state.n → T (checked (word_in bytes) b)) → bytes ≡ card P
card_by_words P bytes fit long h sound = card_by_numbers P bytes fit long (words_unique P (numbered (word_in bytes)) h) sound

-- such words stand for the state, with the counter as it counts
pub patterns_agree : (P : CountedState ℕ) (word : ℕ → ℕ → ℕ) → Holds P (numbered word) → AgreeCounted (as_counted P) (patterns word)
unfolding patterns
patterns_agree P word h =
    let e : word 0 0 ≡ P.state.n = h.dimension in
    record {
      state = record { n = sym e; L = λ i j hi hj. rw e (sym (h.L i j hi hj)); U = λ i j hi hj. rw e (sym (h.U i j hi hj)) };
      counter = sym h.counter;
    }

-- and are the words of what they stand for
pub own_words : (P : CountedState ℕ) (word : ℕ → ℕ → ℕ) → Holds P (numbered word) → Holds (patterns word) (numbered word)
unfolding patterns
own_words P word h =
    let e : word 0 0 ≡ P.state.n = h.dimension in
    let k : word 0 2 ≡ capped P.counter = h.counter in
    record { dimension = refl; count = rw e h.count; counter = omega (arith, k); unused = h.unused; L = λ i j hi hj. refl; U = λ i j hi hj. refl; rest = rw e h.rest }

module _ (P : CountedState ℕ) (bounded : Bounded P) where
  pub card_word_is : (p : ℕ) → p < 63 * block_count P.state.n → numbered (word_in (card P)) p ≡ card_word P p
  unfolding card
  card_word_is = blocks_numbered (block_count P.state.n) (card_word P) (word_bound P bounded)

  pub card_checked : (b : ℕ) → b < block_count P.state.n → T (checked (word_in (card P)) b)
  unfolding card
  card_checked = blocks_checked (block_count P.state.n) (card_word P) (word_bound P bounded)

  pub card_holds : Holds P (numbered (word_in (card P)))
  card_holds =
      let n = P.state.n in
      record {
        dimension = card_word_is 0 (omega (arith, header_room n)) ∙ word_dimension P;
        count = card_word_is 1 (omega (arith, header_room n)) ∙ word_count P;
        counter = card_word_is 2 (omega (arith, header_room n)) ∙ word_counter P;
        unused = λ k l. card_word_is (3 + k) (omega (arith, header_room n)) ∙ word_unused P k l;
        L = λ i j hi hj. card_word_is (63 + l_index n i j) (omega (arith, entry_room n, l_index_within n i j hi hj)) ∙ word_L P i j hi hj;
        U = λ i j hi hj. card_word_is (63 + (n * n + u_index n i j)) (omega (arith, entry_room n, u_index_within n i j hi hj)) ∙ word_U P i j hi hj;
        rest = λ k l. card_word_is (63 + (entry_count n + k)) l ∙ word_rest P k;
      }
