-- Laws of the writing: states that agree have one writing, a writing is accepted and read back, and an accepted card is the writing of what it stands for.
use mathlib.Core.Path.{◌≡◌, refl, sym, ap, ◌∙◌, subst}
use mathlib.Core.Bool.{Bool, true, false, not, ◌&&◌}
use mathlib.Core.List.{List}
use mathlib.Core.Option.{none}
use Prim.Native.Nat.{ℕ, ◌+◌, ◌*◌, ◌^◌, ◌<◌}
use native.Mathlib.Omega.{arith}
use lib.Dec.{T, eqb, eqb→eq}
use lib.ListN.{length}
use lib.Ieee.{Float, nan, inf, fin, binary64, fits, is_nan, to_bits, of_bits, nan_bits}
use lib.Ieee.Bits.{of_bits-to_bits, to_bits-of_bits, to_bits-lt, of_bits-fits, nan_bits_is}
use Rattle.machine.specs.Counter.{CountedState, as_counted}
use Rattle.machine.specs.Agreement.{AgreeCounted}
use Rattle.machine.proofs.Choice.{agree_counted_sym, agree_counted_trans}
use Rattle.storage.specs.Places.{l_index, u_index}
use Rattle.storage.proofs.Places.{l_index_within, u_index_within}
use Rattle.card_format.specs.Blocks.{word_in, numbered}
use Rattle.card_format.specs.Writing.{mapped_counted, entry_count, block_count, card_length, card, patterns_of, writing}
use Rattle.card_format.specs.Reading.{other_nan, entry_word, card_tests, patterns, reading}
use Rattle.card_format.specs.CardLaws.{AreBytes, Writable}
use Rattle.card_format.proofs.Words.{word_bound}
use Rattle.card_format.proofs.Cards.{Holds, Bounded, card_long, card_bytes, card_same, card_by_words, card_holds, card_checked, patterns_agree, own_words, every_entry}
use Rattle.card_format.proofs.Tests.{card_accepted, accepts_card}

-- ---- a double and its bits

-- the one pattern of a NaN
nan_pattern : to_bits binary64 nan ≡ 0x7FF8_0000_0000_0000
unfolding to_bits
nan_pattern = refl

nan_back : to_bits binary64 (of_bits binary64 0x7FF8_0000_0000_0000) ≡ 0x7FF8_0000_0000_0000
unfolding to_bits of_bits
nan_back = refl

-- a word is written back unless it is a NaN with another pattern
pub bits_back : (w : ℕ) → w < 2 ^ 64 → T (not (other_nan w)) → to_bits binary64 (of_bits binary64 w) ≡ w
bits_back w h t = go (nan_bits binary64 w) (eqb w 0x7FF8_0000_0000_0000) refl (eqb→eq w 0x7FF8_0000_0000_0000) t
  where
    go : (a b : Bool) → nan_bits binary64 w ≡ a → (T b → w ≡ 0x7FF8_0000_0000_0000) → T (not (a && not b)) → to_bits binary64 (of_bits binary64 w) ≡ w
    go true true e f t = rw (f tt) nan_back
    go true false e f t = absurd t
    go false b e f t = to_bits-of_bits binary64 w h (subst (λ (x : Bool). T (not x)) (sym e ∙ nan_bits_is binary64 w) tt)

-- the bits of a double are no NaN's with another pattern
bits_not_other : (x : Float) → nan_bits binary64 (to_bits binary64 x) ≡ is_nan x → T (not (other_nan (to_bits binary64 x)))
unfolding is_nan
bits_not_other nan e = rw (e, nan_pattern) tt
bits_not_other (inf s) e = rw e tt
bits_not_other (fin s m k) e = rw e tt

pub no_other_nan : (x : Float) → T (fits binary64 x) → T (not (other_nan (to_bits binary64 x)))
no_other_nan x h = bits_not_other x (nan_bits_is binary64 (to_bits binary64 x) ∙ ap is_nan (of_bits-to_bits binary64 x h))

-- ---- agreement of entries turned into others

mapped_agree : {A B : Type 0} (f : A → B) {S R : CountedState A} → AgreeCounted S R → AgreeCounted (mapped_counted f S) (mapped_counted f R)
mapped_agree f h = record {
  state = record { n = h.state.n; L = λ i j a b. ap f (h.state.L i j a b); U = λ i j a b. ap f (h.state.U i j a b) };
  counter = h.counter;
}

bounded : (S : CountedState Float) → Writable S → Bounded (patterns_of S)
bounded S w = record {
  count = w.count;
  L = λ i j a b. to_bits-lt binary64 (S.state.L i j) (w.L i j a b);
  U = λ i j a b. to_bits-lt binary64 (S.state.U i j) (w.U i j a b);
}

-- ---- the laws

pub writing_same : (S R : CountedState Float) → AgreeCounted (as_counted S) (as_counted R) → writing S ≡ writing R
unfolding writing
writing_same S R h = card_same (patterns_of S) (patterns_of R) (mapped_agree (to_bits binary64) h)

pub writing_long : (S : CountedState Float) → length (writing S) ≡ card_length S.state.n
unfolding writing
writing_long S = card_long (patterns_of S)

pub writing_bytes : (S : CountedState Float) → AreBytes (writing S)
unfolding writing
writing_bytes S = card_bytes (patterns_of S)

module _ (S : CountedState Float) (w : Writable S) where
  -- the words of a writing, each at its number
  pub writing_holds : Holds (patterns_of S) (numbered (word_in (writing S)))
  unfolding writing
  writing_holds = card_holds (patterns_of S) (bounded S w)

  -- a writing is read back
  pub writing_read : AgreeCounted (as_counted S) (reading (writing S))
  writing_read =
      agree_counted_trans
      (record {
        state = record {
          n = refl;
          L = λ i j a b. sym (of_bits-to_bits binary64 (S.state.L i j) (w.L i j a b));
          U = λ i j a b. sym (of_bits-to_bits binary64 (S.state.U i j) (w.U i j a b));
        };
        counter = refl;
      })
      (mapped_agree (of_bits binary64) (patterns_agree (patterns_of S) (word_in (writing S)) writing_holds))

  -- and passes the tests
  pub writing_accepted : card_tests (writing S) ≡ none
  unfolding writing
  writing_accepted =
      let P = patterns_of S in
      let e : word_in (card P) 0 0 ≡ S.state.n = writing_holds.dimension in
      accepts_card (card P) (block_count S.state.n) (card_long P)
      (record {
        needed = rw e refl;
        checks = card_checked P (bounded S w);
        holds = own_words P (word_in (card P)) writing_holds;
        nans = rw e
            (every_entry P (numbered (word_in (card P))) writing_holds (λ x. T (not (other_nan x)))
            (λ i j hi hj. no_other_nan (S.state.L i j) (w.L i j hi hj))
            (λ i j hi hj. no_other_nan (S.state.U i j) (w.U i j hi hj)));
      })

-- states with one writing agree
pub writing_injective : (S R : CountedState Float) → Writable S → Writable R → writing S ≡ writing R → AgreeCounted (as_counted S) (as_counted R)
writing_injective S R v w e = agree_counted_trans (writing_read S v) (agree_counted_sym (rw (← e) at (writing_read R w)))

-- an accepted card is, byte for byte, the writing of the state that it stands for
pub accepted_writing : (bytes : List ℕ) → AreBytes bytes → card_tests bytes ≡ none → bytes ≡ writing (reading bytes)
unfolding writing patterns
accepted_writing bytes fit e =
    let a = card_accepted bytes e in
    let n = word_in bytes 0 0 in
    let back : (q : ℕ) → q < entry_count n → entry_word (word_in bytes) q ≡ to_bits binary64 (of_bits binary64 (entry_word (word_in bytes) q)) =
    λ q l. sym (bits_back (entry_word (word_in bytes) q) (word_bound bytes fit _) (a.1.nans q l)) in
    card_by_words (patterns (word_in bytes)) bytes fit a.0 a.1.holds a.1.checks
    ∙ card_same (patterns (word_in bytes)) (patterns_of (reading bytes))
    (record {
      state = record {
        n = refl;
        L = λ i j hi hj. back (l_index n i j) (omega (arith, l_index_within n i j hi hj));
        U = λ i j hi hj. back (n * n + u_index n i j) (omega (arith, u_index_within n i j hi hj));
      };
      counter = refl;
    })

-- that state can be written, and its dimension is one that storage can have
pub reading_writable : (bytes : List ℕ) → AreBytes bytes → card_tests bytes ≡ none → Writable (reading bytes)
unfolding patterns
reading_writable bytes fit e = record {
  count = rw (← (card_accepted bytes e).1.holds.count) (word_bound bytes fit 8);
  L = λ i j hi hj. of_bits-fits binary64 _;
  U = λ i j hi hj. of_bits-fits binary64 _;
}
