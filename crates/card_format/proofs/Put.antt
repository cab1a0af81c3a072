-- Laws of words that are put into a list of bytes: one word, then words one after another, with the check words of the blocks that they fill; the running sum of a
-- block; and a buffer that holds the blocks.
use mathlib.Core.Path.{◌≡◌, refl, sym, ap, ◌∙◌, subst}
use mathlib.Core.List.{List, [], ◌∷◌, ◌++◌, append-nil}
use mathlib.Core.Logic.{◌⊎◌, inl, inr, ⊎_elim}
use Prim.Native.Nat.{ℕ, zero, suc, ◌+◌, ◌-◌, ◌*◌, ◌/◌, ◌%◌, ◌^◌, ◌≤◌, ◌<◌}
use native.Mathlib.Nat.{add-zero, zero-add, mod-eq_of_lt, eq-or-lt_of_le, le_of_suc-le-suc}
use native.Mathlib.Decide.{dec_lt}
use native.Mathlib.Omega.{arith}
use lib.ListN.{length, get_or, drop, replicate, length-append, length-drop, length-replicate, get_or-append, get_or-replicate, get_or-eq_default}
use lib.Seq.{get_or-append-add, get_or-drop, ext_get_or}
use Rattle.card_format.specs.Blocks.{total, check_word, block_word, byte_of, block_byte, blocks, word_at, word_in}
use Rattle.card_format.specs.WordsPut.{Stands, WordPut, place, WordsAndChecksPut, WordsPut, WordsFilled, partial_sum, sum_before}
use Rattle.card_format.proofs.Totals.{total_same, total_split}
use Rattle.card_format.proofs.Words.{word_of_bytes, word_same}
use Rattle.card_format.proofs.Blocks.{check_same, block_word_is, block_check, place_is, blocks_length, blocks_at}
use Rattle.card_format.proofs.Entries.{append_at}

-- ---- places

-- the word numbered p has its room in m blocks
pub place_room : (p m : ℕ) → p < 63 * m → place p + 8 ≤ 512 * m
place_room p m h = omega arith

place_rising : (p p' : ℕ) → p < p' → place p + 8 ≤ place p'
place_rising p p' h = omega arith

-- ---- one word

pub stands_word : (at w : ℕ) (bytes : List ℕ) → w < 2 ^ 64 → Stands at w bytes → word_at bytes at ≡ w
stands_word at w bytes l h = word_of_bytes bytes at w h ∙ mod-eq_of_lt l

-- a word stands where its bytes are kept
stands_kept : (at w : ℕ) (old new : List ℕ) → ((i : ℕ) → i < 8 → get_or new (at + i) 0 ≡ get_or old (at + i) 0) → Stands at w old → Stands at w new
stands_kept at w old new k h i l = k i l ∙ h i l

-- no byte of a word is one of a check word
off_checks : (p i b : ℕ) → i < 8 → (place p + i < 512 * b + 504) ⊎ (512 * b + 512 ≤ place p + i)
off_checks p i b l = go (dec_lt b (p / 63))
  where
    go : Dec (b < p / 63) → (place p + i < 512 * b + 504) ⊎ (512 * b + 512 ≤ place p + i)
    go (yes h) = inr (omega arith)
    go (no h) = inl (omega arith)

-- no byte of block b is one of a word or a check word behind it
before_word : (b p q : ℕ) → q < 512 * b + 512 → 63 * (b + 1) ≤ p → q < place p
before_word b p q l h = omega arith

-- ---- words one after another

pub none_put : (first a : ℕ) (old : List ℕ) → WordsAndChecksPut first [] a a old old
none_put first a old = record { fits = λ i. omega arith; long = refl; put = λ i l. absurd (omega arith); checked = λ b g l. absurd (omega arith); kept = λ q d e. refl }

module _ {first a b c : ℕ} {ws vs : List ℕ} {old mid new : List ℕ} (h : WordsAndChecksPut first ws a b old mid)
    (g : WordsAndChecksPut (first + length ws) vs b c mid new) (rising : (a ≤ b) × (b ≤ c)) (done : 63 * b ≤ first + length ws) where
  -- a word of the first ones stands after the second too
  first_stands : (i : ℕ) → i < length ws → Stands (place (first + i)) (get_or ws i 0) new
  first_stands i l =
      stands_kept (place (first + i)) (get_or ws i 0) mid new
      (λ j r.
      g.kept (place (first + i) + j) (λ k s. inl (omega (arith, place_rising (first + i) (first + length ws + k) (omega arith))))
      (λ d m n. off_checks (first + i) j d r))
      (h.put i l)

  both_stand : (i : ℕ) → i < length (ws ++ vs) → Stands (place (first + i)) (get_or (ws ++ vs) i 0) new
  both_stand i l = go (dec_lt i (length ws))
    where
      go : Dec (i < length ws) → Stands (place (first + i)) (get_or (ws ++ vs) i 0) new
      go (yes m) = rw (get_or-append ws vs 0 i m) (first_stands i m)
      go (no m) =
          let k = i - length ws in
          let e : length ws + k ≡ i = omega arith in
          let p : first + length ws + k ≡ first + i = omega arith in
          let stands : Stands (place (first + i)) (get_or vs k 0) new = subst (λ (x : ℕ). Stands (place x) (get_or vs k 0) new) p (g.put k (omega (arith, length-append ws vs))) in
          subst (λ (w : ℕ). Stands (place (first + i)) w new) (sym (get_or-append-add ws vs k 0) ∙ ap (λ (x : ℕ). get_or (ws ++ vs) x 0) e) stands

  both_fit : (i : ℕ) → Dec (i < length ws) → get_or (ws ++ vs) i 0 < 2 ^ 64
  both_fit i (yes l) = rw (get_or-append ws vs 0 i l) (h.fits i)
  both_fit i (no l) =
      let e : length ws + (i - length ws) ≡ i = omega arith in
      subst (λ (x : ℕ). get_or (ws ++ vs) x 0 < 2 ^ 64) e (rw get_or-append-add (g.fits (i - length ws)))

  -- the second ones change no byte of a block that was done before
  block_kept : (d q : ℕ) → d < b → q < 512 * d + 512 → get_or new q 0 ≡ get_or mid q 0
  block_kept d q l r = g.kept q (λ i m. inl (before_word d (first + length ws + i) q r (omega arith))) (λ e m n. inl (omega arith))

  both_checked : (d : ℕ) → a ≤ d → d < c → Stands (512 * d + 504) (check_word d (word_in new d)) new
  both_checked d l m = go (dec_lt d b)
    where
      go : Dec (d < b) → Stands (512 * d + 504) (check_word d (word_in new d)) new
      go (yes r) =
          let same : check_word d (word_in mid d) ≡ check_word d (word_in new d) =
          check_same d (word_in mid d) (word_in new d) (λ k t. sym (word_same mid new (512 * d + 8 * k) (λ i u. block_kept d (512 * d + 8 * k + i) r (omega arith)))) in
          stands_kept (512 * d + 504) (check_word d (word_in new d)) mid new (λ i t. block_kept d (512 * d + 504 + i) r (omega arith)) (rw same at (h.checked d l r))
      go (no r) = g.checked d (omega arith) m

  -- One after the other is one, where the first ones reach as far as their check words.
  pub put_then : WordsAndChecksPut first (ws ++ vs) a c old new
  put_then = record {
    fits = λ i. both_fit i (dec_lt i (length ws));
    long = g.long ∙ h.long;
    put = both_stand;
    checked = both_checked;
    kept = λ q d e.
        g.kept q (λ i l. let e : first + length ws + i ≡ first + (length ws + i) = omega arith in rw e (d (length ws + i) (omega (arith, length-append ws vs)))) (λ b l m. e b (omega arith) m)
        ∙ h.kept q (λ i l. d i (omega (arith, length-append ws vs))) (λ b l m. e b l (omega arith));
  }

one_fits : (w : ℕ) → w < 2 ^ 64 → (i : ℕ) → get_or (w ∷ []) i 0 < 2 ^ 64
one_fits w l zero = l
one_fits w l (suc i) = omega arith

-- one word
pub one_put : {first w a : ℕ} {old new : List ℕ} → WordPut (place first) w old new → WordsAndChecksPut first (w ∷ []) a a old new
one_put {first} {w} {a} {old} {new} h = record {
  fits = one_fits w h.fits;
  long = h.long;
  put = λ i l.
      let e : i ≡ 0 = omega arith in
      let f : first + 0 ≡ first = omega arith in
      subst (λ (x : ℕ). Stands (place (first + x)) (get_or (w ∷ []) x 0) new) (sym e) (subst (λ (x : ℕ). Stands (place x) w new) (sym f) h.put);
  checked = λ b g l. absurd (omega arith);
  kept = λ q d e. let f : first + 0 ≡ first = omega arith in h.kept q (rw f at (d 0 (omega arith)));
}

-- one more word, and no check word yet
pub put_more : {first : ℕ} {ws : List ℕ} {w : ℕ} {old mid new : List ℕ} → WordsPut first ws old mid → WordPut (place (first + length ws)) w mid new
    → WordsPut first (ws ++ w ∷ []) old new
put_more h g = put_then h (one_put g) (omega arith, omega arith) (omega arith)

-- a block's check word
check_put : {first b w : ℕ} {mid new : List ℕ} → WordPut (512 * b + 504) w mid new → w ≡ check_word b (word_in mid b) → WordsAndChecksPut first [] b (b + 1) mid new
check_put {first} {b} {w} {mid} {new} h e =
    let same : w ≡ check_word b (word_in new b) =
    e ∙ check_same b (word_in mid b) (word_in new b) (λ k l. sym (word_same mid new (512 * b + 8 * k) (λ i r. h.kept (512 * b + 8 * k + i) (inl (omega arith))))) in
    record {
      fits = λ i. omega arith;
      long = h.long;
      put = λ i l. absurd (omega arith);
      checked = λ d l m. let d_is : d ≡ b = omega arith in rw d_is (rw same at h.put);
      kept = λ q d r.
          h.kept q
          (⊎_elim (λ (a : q < 512 * b + 504). inl a) (λ (a : 512 * b + 512 ≤ q). inr (omega arith)) (r b (omega arith) (omega arith)));
    }

-- words alone, between any block and itself
words_alone : {first : ℕ} {ws old new : List ℕ} (a : ℕ) → WordsPut first ws old new → WordsAndChecksPut first ws a a old new
words_alone a h = record { fits = h.fits; long = h.long; put = h.put; checked = λ b g l. absurd (omega arith); kept = λ q d e. h.kept q d (λ b g l. absurd (omega arith)) }

-- words that leave their block open
pub left_open : {first : ℕ} {ws old new : List ℕ} → WordsPut first ws old new → first % 63 + length ws < 63 → WordsFilled first ws old new
left_open {first} {ws} h l = let e : (first + length ws) / 63 ≡ first / 63 = omega arith in rw e (words_alone (first / 63) h)

-- words that fill their block, and its check word
pub filled : {first w : ℕ} {ws old mid new : List ℕ} → WordsPut first ws old mid → first % 63 + length ws ≡ 63
    → WordPut (512 * (first / 63) + 504) w mid new → w ≡ check_word (first / 63) (word_in mid (first / 63)) → WordsFilled first ws old new
filled {first} {w} {ws} {old} {mid} {new} h full g e =
    let b : (first + length ws) / 63 ≡ first / 63 + 1 = omega arith in
    rw b (subst (λ (vs : List ℕ). WordsAndChecksPut first vs (first / 63) (first / 63 + 1) old new) (append-nil ws) (put_then (words_alone (first / 63) h) (check_put g e) (omega arith, omega arith) (omega arith)))

pub filled_then : {first : ℕ} {ws vs old mid new : List ℕ} → WordsFilled first ws old mid → WordsFilled (first + length ws) vs mid new → WordsFilled first (ws ++ vs) old new
filled_then {first} {ws} {vs} h g =
    let e : first + length (ws ++ vs) ≡ first + length ws + length vs = omega (arith, length-append ws vs) in
    rw e (put_then h g (omega arith, omega arith) (omega arith))

-- the bytes behind m blocks that have room for the words
pub kept_behind : {first : ℕ} {ws : List ℕ} {old new : List ℕ} (m : ℕ) → WordsFilled first ws old new → first + length ws ≤ 63 * m → (q : ℕ) → 512 * m ≤ q
    → get_or new q 0 ≡ get_or old q 0
kept_behind {first} m h r q l = h.kept q (λ i t. inr (omega (arith, place_room (first + i) m (omega arith)))) (λ b s t. inr (omega arith))

-- ---- the running sum

-- its words among those of a block
module _ (b k : ℕ) {ws old new : List ℕ} (h : WordsPut (63 * b + k) ws old new) (room : k + length ws ≤ 63) where
  earlier_word : (i : ℕ) → i < k → word_in new b i ≡ word_in old b i
  earlier_word i l =
      word_same old new (512 * b + 8 * i) (λ j r. h.kept (512 * b + 8 * i + j) (λ m s. inl (omega arith)) (λ d m n. absurd (omega arith)))

  own_word : (i : ℕ) → i < length ws → word_in new b (k + i) ≡ get_or ws i 0
  own_word i l =
      let at : place (63 * b + k + i) ≡ 512 * b + 8 * (k + i) = omega arith in
      stands_word (512 * b + 8 * (k + i)) (get_or ws i 0) new (h.fits i) (rw at at (h.put i l))

  pub sum_more : (partial_sum old b k + total (length ws) (λ i. get_or ws i 0)) % 2 ^ 64 ≡ partial_sum new b (k + length ws)
  sum_more =
      omega (
        arith,
        total_split k (length ws) (word_in new b),
        total_same k (word_in new b) (word_in old b) earlier_word,
        total_same (length ws) (λ i. word_in new b (k + i)) (λ i. get_or ws i 0) own_word,
      )

-- the running sum where block b is next: its number
pub sum_at_start : (bytes : List ℕ) (b : ℕ) → b < 2 ^ 64 → sum_before bytes (63 * b) ≡ b
unfolding total
sum_at_start bytes b l =
    let block : 63 * b / 63 ≡ b = omega arith in
    let word : 63 * b % 63 ≡ 0 = omega arith in
    rw (block, word, add-zero) (mod-eq_of_lt l)

-- the sum with one more word
pub word_added : (b k : ℕ) {w : ℕ} {old new : List ℕ} → k < 63 → WordPut (512 * b + 8 * k) w old new → (partial_sum old b k + w) % 2 ^ 64 ≡ partial_sum new b (k + 1)
unfolding total
word_added b k {w} l h = let at : 512 * b + 8 * k ≡ place (63 * b + k) = omega arith in rw (← zero-add w) (sum_more b k (one_put (rw at at h)) (omega arith))

-- a word of so many zeros, and of none behind them
pub zero_at : (count k : ℕ) → get_or {A = ℕ} (replicate count 0) k 0 ≡ 0
zero_at count k = go (dec_lt k count)
  where
    go : Dec (k < count) → get_or {A = ℕ} (replicate count 0) k 0 ≡ 0
    go (yes l) = get_or-replicate count k 0 0 l
    go (no l) = get_or-eq_default {A = ℕ} (replicate count 0) 0 {n = k} (omega (arith, length-replicate {A = ℕ} count 0))

zeros_total : (count k : ℕ) → total k (λ i. get_or {A = ℕ} (replicate count 0) i 0) ≡ 0
unfolding total
zeros_total count zero = refl
zeros_total count (suc k) = omega (arith, zeros_total count k, zero_at count k)

-- zeros add nothing
pub zeros_added : (b k count : ℕ) {old new : List ℕ} → WordsPut (63 * b + k) (replicate count 0) old new → k + count ≤ 63 → partial_sum new b (k + count) ≡ partial_sum old b k
zeros_added b k count {old} {new} h room =
    let long : length (replicate {A = ℕ} count 0) ≡ count = length-replicate {A = ℕ} count 0 in
    let more = rw long at (sum_more b k h (rw long room)) in
    sym more ∙ omega (arith, zeros_total count count)

-- ---- blocks at the beginning of a buffer

module _ (m : ℕ) {ws old new : List ℕ} (count : length ws ≡ 63 * m) (h : WordsFilled 0 ws old new) where
  abbrev words : ℕ → ℕ
  words p = get_or ws p 0

  word_stands : (b k : ℕ) → b < m → k < 63 → Stands (512 * b + 8 * k) (words (63 * b + k)) new
  word_stands b k hb hk =
      let at : place (0 + (63 * b + k)) ≡ 512 * b + 8 * k = omega arith in
      subst (λ (x : ℕ). Stands x (words (63 * b + k)) new) at (h.put (63 * b + k) (omega (arith, count)))

  check_is : (b : ℕ) → b < m → check_word b (word_in new b) ≡ check_word b (λ i. words (63 * b + i))
  check_is b hb =
      check_same b (word_in new b) (λ i. words (63 * b + i)) (λ k l. stands_word (512 * b + 8 * k) (words (63 * b + k)) new (h.fits (63 * b + k)) (word_stands b k hb l))

  byte_is : (b k i : ℕ) → b < m → k < 64 → i < 8 → get_or new (512 * b + 8 * k + i) 0 ≡ byte_of (block_word words b k) i
  byte_is b k i hb hk hi =
      ⊎_elim
      (λ (e : k ≡ 63).
      let at : 512 * b + 8 * 63 + i ≡ 512 * b + 504 + i = omega arith in
      rw e (rw (at, block_check) (h.checked b (omega arith) (omega (arith, count)) i hi ∙ ap (λ (w : ℕ). byte_of w i) (check_is b hb))))
      (λ (l : k < 63). word_stands b k hb l i hi ∙ ap (λ (w : ℕ). byte_of w i) (sym (block_word_is words b k l)))
      (eq-or-lt_of_le (le_of_suc-le-suc hk))

  byte_at_place : (q : ℕ) → q < 512 * m → get_or new q 0 ≡ get_or (blocks m words) q 0
  unfolding block_byte
  byte_at_place q l =
      ap (λ (x : ℕ). get_or new x 0) (sym (place_is q))
      ∙ byte_is (q / 512) (q % 512 / 8) (q % 8) (omega arith) (omega arith) (omega arith)
      ∙ sym (blocks_at m words q l)

  -- The buffer holds the blocks, and what it held behind them.
  pub blocks_put : 512 * m ≤ length old → new ≡ blocks m words ++ drop (512 * m) old
  blocks_put room = ext_get_or 0 new (blocks m words ++ drop (512 * m) old) long at_every
    where
      long : length new ≡ length (blocks m words ++ drop (512 * m) old)
      long = rw (length-append, blocks_length, length-drop) (omega (arith, h.long))

      at_every : (q : ℕ) → q < length new → get_or new q 0 ≡ get_or (blocks m words ++ drop (512 * m) old) q 0
      at_every q l = go (dec_lt q (512 * m))
        where
          go : Dec (q < 512 * m) → get_or new q 0 ≡ get_or (blocks m words ++ drop (512 * m) old) q 0
          go (yes r) = byte_at_place q r ∙ sym (get_or-append (blocks m words) (drop (512 * m) old) 0 q (rw blocks_length r))
          go (no r) =
              let k = q - 512 * m in
              let e : 512 * m + k ≡ q = omega arith in
              kept_behind m h (omega (arith, count)) q (omega arith)
              ∙ ap (λ (x : ℕ). get_or old x 0) (sym e)
              ∙ sym (get_or-drop (512 * m) old k 0)
              ∙ sym (append_at (512 * m) (blocks m words) (drop (512 * m) old) k 0 (blocks_length m words))
              ∙ ap (λ (x : ℕ). get_or (blocks m words ++ drop (512 * m) old) x 0) e
