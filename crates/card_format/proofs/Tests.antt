-- What the tests of a card say: which block 16 names, and that a card passes all of them exactly if it has the words of the state that it stands for.
use mathlib.Core.Path.{◌≡◌, refl, sym, ap, ◌∙◌, subst}
use mathlib.Core.Bool.{Bool, true, false, not, ◌&&◌, ◌||◌, cond}
use mathlib.Core.List.{List}
use mathlib.Core.Logic.{⊎_elim}
use mathlib.Core.Option.{Option, none, some}
use Prim.Native.Nat.{ℕ, zero, suc, ◌+◌, ◌-◌, ◌*◌, ◌/◌, ◌%◌, ◌≤◌, ◌<◌}
use native.Mathlib.Nat.{eq-or-lt_of_le, le_of_suc-le-suc}
use native.Mathlib.Omega.{arith}
use lib.Dec.{T, leb, eqb, eqb→eq, leb→le, le→leb, not_T}
use lib.ListN.{length}
use lib.Ieee.Fits.{eq→eqb, and_i, and_l, and_r}
use lib.Ieee.Bits.{is_true, is_false}
use borrow.Author.Tests.{eq-eqb, ne_eqb}
use Rattle.machine.specs.Calls.{Answer, refused, refused_at, ◌or_else◌, refuse_if}
use Rattle.machine.proofs.Refusals.{or_else_none, refuse_if_none, none_is_some}
use Rattle.machine.specs.Readiness.{all_below}
use Rattle.machine.proofs.Readiness.{holds_below, true_below}
use Rattle.card_format.specs.Blocks.{word_in, numbered}
use Rattle.card_format.specs.Writing.{entry_count, block_count}
use Rattle.card_format.specs.Reading.{no_whole_blocks, checked, wrong_check, entry_word, all_zero, header_right, rest_filled, other_nan, nans_have_one_pattern, in_format, word_tests, card_tests, patterns}
use Rattle.card_format.specs.CardLaws.{Lowest}
use Rattle.card_format.proofs.Cards.{Holds, header_room}

-- ---- 16

right : (b : Bool) (a : Answer) → cond b none (some a) ≡ none → T b
right true a e = tt
right false a e = absurd (none_is_some {r = a} e refl)

module _ (word : ℕ → ℕ → ℕ) where
  pub none_wrong : (m : ℕ) → wrong_check word m ≡ none → (b : ℕ) → b < m → T (checked word b)
  unfolding wrong_check
  none_wrong zero e b h = absurd (omega arith)
  none_wrong (suc m) e b h =
      let o = or_else_none (wrong_check word m) _ e in
      ⊎_elim
      (λ (p : b ≡ m). rw p (right (checked word m) (refused_at 16 m) o.1))
      (λ (l : b < m). none_wrong m o.0 b l)
      (eq-or-lt_of_le (le_of_suc-le-suc h))

  pub all_checked : (m : ℕ) → ((b : ℕ) → b < m → T (checked word b)) → wrong_check word m ≡ none
  unfolding wrong_check
  all_checked zero h = refl
  all_checked (suc m) h = rw (all_checked m (λ b l. h b (omega arith)), is_true (checked word m) (h m (omega arith)))

  -- the lowest block whose check is wrong is named
  pub lowest_named : (m b : ℕ) → b < m → ((i : ℕ) → i < b → T (checked word i)) → ¬ T (checked word b) → wrong_check word m ≡ some (refused_at 16 b)
  unfolding wrong_check
  lowest_named zero b l h w = absurd (omega arith)
  lowest_named (suc m) b l h w =
      ⊎_elim
      (λ (p : b ≡ m). rw (← p) (rw (all_checked b h, is_false (checked word b) (not_T (checked word b) w))))
      (λ (r : b < m). rw (lowest_named m b r h w))
      (eq-or-lt_of_le (le_of_suc-le-suc l))

  pub named_lowest : (m : ℕ) (a : Answer) → wrong_check word m ≡ some a → Lowest word m a
  unfolding wrong_check
  named_lowest zero a e = absurd (none_is_some {r = a} refl e)
  named_lowest (suc m) a e = go (wrong_check word m) (checked word m) refl refl e (named_lowest m a)
    where
      go : (o : Option Answer) (c : Bool) → wrong_check word m ≡ o → checked word m ≡ c → (o or_else cond c none (some (refused_at 16 m))) ≡ some a
          → (wrong_check word m ≡ some a → Lowest word m a) → Lowest word (suc m) a
      go none true p q r ih = absurd (none_is_some {r = a} refl r)
      go none false p q r ih = record { block = m; within = omega arith; named = cc; wrong = λ t. subst T q t; right_before = none_wrong m p }
      go (some x) c p q r ih =
          let l = ih (p ∙ r) in
          record { block = l.block; within = omega (arith, l.within); named = l.named; wrong = l.wrong; right_before = l.right_before }

-- ---- 16 and 17

-- what m blocks have that pass both tests
pub record Accepted (word : ℕ → ℕ → ℕ) (m : ℕ) : Type 0 where
  pub needed : m ≡ block_count (word 0 0)
  pub checks : (b : ℕ) → b < m → T (checked word b)
  pub holds : Holds (patterns word) (numbered word)
  pub nans : (q : ℕ) → q < entry_count (word 0 0) → T (not (other_nan (entry_word word q)))

given : (b : Bool) → refuse_if (not b) 17 ≡ none → T b
given true e = tt
given false e = absurd (none_is_some {r = refused 17} e refl)

passed : (b : Bool) → T b → refuse_if (not b) 17 ≡ none
passed true t = refl
passed false t = absurd t

-- conditions that are tested as one
both : (a b : Bool) → T (a && b) → T a × T b
both a b t = (and_l a b t, and_r a b t)

-- a test at every place
at_every : (k : ℕ) (test : ℕ → Bool) → T (all_below k test) → (i : ℕ) → i < k → T (test i)
at_every k test t i h = subst T (sym (holds_below k test (is_true (all_below k test) t) i h)) tt

every : (k : ℕ) (test : ℕ → Bool) → ((i : ℕ) → i < k → T (test i)) → T (all_below k test)
every k test h = subst T (sym (true_below k test (λ i l. is_true (test i) (h i l)))) tt

module _ (word : ℕ → ℕ → ℕ) (m : ℕ) where
  pub words_accepted : word_tests word m ≡ none → Accepted word m
  unfolding word_tests in_format patterns
  words_accepted e =
      let n = word 0 0 in
      let o = or_else_none (wrong_check word m) _ e in
      let t = both (eqb m (word 0 1)) _ (given (in_format word m) o.1) in
      let u = both (eqb m (block_count n)) _ t.1 in
      let v = both (header_right word) _ u.1 in
      let f = both (leb (word 0 2) 999999) (all_zero word 3 60) v.0 in
      let w = both (rest_filled word m n) (nans_have_one_pattern word n) v.1 in
      let needed : m ≡ block_count n = eqb→eq m (block_count n) u.0 in
      record {
        needed = needed;
        checks = none_wrong word m o.0;
        holds = record {
          dimension = refl;
          count = sym (eqb→eq m (word 0 1) t.0) ∙ needed;
          counter = let l : word 0 2 ≤ 999999 = leb→le (word 0 2) 999999 f.0 in omega arith;
          unused = λ k l. eqb→eq (numbered word (3 + k)) 0 (at_every 60 (λ k. eqb (numbered word (3 + k)) 0) f.1 k l);
          L = λ i j hi hj. refl;
          U = λ i j hi hj. refl;
          rest = λ k l.
              let e : 63 + (entry_count n + k) ≡ 63 + entry_count n + k = omega arith in
              rw e
              (eqb→eq (numbered word (63 + entry_count n + k)) 0
              (at_every (63 * (m - 1) - entry_count n) (λ k. eqb (numbered word (63 + entry_count n + k)) 0) w.0 k (omega arith)));
        };
        nans = at_every (entry_count n) (λ q. not (other_nan (entry_word word q))) w.1;
      }

  pub accepts_words : Accepted word m → word_tests word m ≡ none
  unfolding word_tests in_format patterns
  accepts_words h =
      let n = word 0 0 in
      let figure : T (leb (word 0 2) 999999) = le→leb (word 0 2) 999999 (omega (arith, h.holds.counter)) in
      let unused : T (all_zero word 3 60) = every 60 (λ k. eqb (numbered word (3 + k)) 0) (λ k l. eq→eqb (h.holds.unused k l)) in
      let rest : T (rest_filled word m n) =
      every (63 * (m - 1) - entry_count n) (λ k. eqb (numbered word (63 + entry_count n + k)) 0)
      (λ k l.
      let e : 63 + (entry_count n + k) ≡ 63 + entry_count n + k = omega arith in
      eq→eqb (rw e at (h.holds.rest k (omega (arith, h.needed))))) in
      let t : T (in_format word m) =
      and_i (eqb m (word 0 1)) _ (eq→eqb (h.needed ∙ sym h.holds.count))
      (and_i (eqb m (block_count n)) _ (eq→eqb h.needed)
      (and_i (header_right word) _ (and_i (leb (word 0 2) 999999) (all_zero word 3 60) figure unused)
      (and_i (rest_filled word m n) (nans_have_one_pattern word n) rest (every (entry_count n) (λ q. not (other_nan (entry_word word q))) h.nans)))) in
      rw (all_checked word m h.checks) (passed (in_format word m) t)

-- ---- 15, and all tests

whole : (l : ℕ) → T (not (no_whole_blocks l)) → l ≡ 512 * (l / 512)
whole l t = go (eqb l 0) (eqb (l % 512) 0) t (eqb→eq (l % 512) 0)
  where
    go : (a b : Bool) → T (not (a || not b)) → (T b → l % 512 ≡ 0) → l ≡ 512 * (l / 512)
    go true b t f = absurd t
    go false true t f = omega (arith, f tt)
    go false false t f = absurd t

pub no_part : (l m : ℕ) → l ≡ 512 * m → 0 < m → no_whole_blocks l ≡ false
no_part l m e h =
    let a : eqb l 0 ≡ false = ne_eqb l 0 (λ z. omega arith) in
    let b : eqb (l % 512) 0 ≡ true = eq-eqb (l % 512) 0 (omega arith) in
    rw (a, b)

pub card_accepted : (bytes : List ℕ) → card_tests bytes ≡ none
    → (length bytes ≡ 512 * block_count (word_in bytes 0 0)) × Accepted (word_in bytes) (block_count (word_in bytes 0 0))
unfolding card_tests
card_accepted bytes e =
    let m = length bytes / 512 in
    let o = or_else_none (refuse_if (no_whole_blocks (length bytes)) 15) _ e in
    let a = words_accepted (word_in bytes) m o.1 in
    (whole (length bytes) (refuse_if_none (no_whole_blocks (length bytes)) 15 o.0) ∙ ap (λ (k : ℕ). 512 * k) a.needed, rw a.needed at a)

pub accepts_card : (bytes : List ℕ) (m : ℕ) → length bytes ≡ 512 * m → Accepted (word_in bytes) m → card_tests bytes ≡ none
unfolding card_tests
accepts_card bytes m long h =
    let e : length bytes / 512 ≡ m = omega arith in
    rw (no_part (length bytes) m long (omega (arith, h.needed, header_room (word_in bytes 0 0))), e) (accepts_words (word_in bytes) m h)
