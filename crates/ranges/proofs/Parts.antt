-- Parts of slices: the entries of one that is read, and what a slice holds where a part of it was written.
use Rattle.std.proofs.Common.{◌≡◌, ap, ◌∙◌, ℕ, ◌+◌, ◌-◌, ◌≤◌, ◌<◌, List, ◌++◌, length, take, drop, replicate, arith, rules}
use Rattle.std.proofs.lemmas.List.{places}
use borrow.Rule.Slice.PartMut.{put_mid}
use native.Mathlib.Decide.{dec_lt}
use native.Mathlib.Numerals.{unary_clauses}
use Rattle.numbers.specs.NumberForm.{NumberForm}
use Rattle.machine.specs.Tables.{Vector}
use Rattle.machine.specs.Products.{entry}
use Rattle.ranges.specs.Written.{from, Written}

module _ (N : NumberForm) (start stop : ℕ) (xs : List N.Value) where
  -- `xs[start..stop]`
  abbrev pub part : List N.Value
  part = take (stop - start) (drop start xs)

  pub part_long : start ≤ stop → stop ≤ length xs → length part ≡ stop - start
  part_long ordered fits = search (rules, places)

  pub part_entry : (k : ℕ) → stop ≤ length xs → k < length part → entry N part k ≡ entry N xs (start + k)
  part_entry k fits h = search (rules, places)

-- xs where `xs[start..stop]`, which is `count` entries long, became ys
module _ (N : NumberForm) (start stop count : ℕ) (xs ys : List N.Value) (is_stop : stop ≡ start + count) (fits : stop ≤ length xs) (long : length ys ≡ count) where
  within : (j : ℕ) → j < count → entry N (put_mid start (stop - start) xs ys) (start + j) ≡ entry N ys j
  within j h = search (rules, places)

  before : (q : ℕ) → q < start → entry N (put_mid start (stop - start) xs ys) q ≡ entry N xs q
  before q h = search (rules, places)

  behind : (q : ℕ) → stop ≤ q → entry N (put_mid start (stop - start) xs ys) q ≡ entry N xs q
  behind q h = search (rules, places)

  long_as_before : length (put_mid start (stop - start) xs ys) ≡ length xs
  long_as_before = search (rules, places)

  pub part_written : {f : Vector N.Value} → ((j : ℕ) → j < count → entry N ys j ≡ f j) → Written N (from start) count f xs (put_mid start (stop - start) xs ys)
  part_written e = record {
    value = λ j h. within j h ∙ e j h;
    kept = record {
      long = long_as_before;
      same = λ q free. elim (dec_lt q start) [
        | yes h ↦ before q h
        | no h ↦ behind q (elim (dec_lt q stop) [ yes l ↦ absurd (free (q - start, omega arith, omega arith)) | no l ↦ omega arith ])
      ];
    };
  }

module _ (N : NumberForm) (start stop count : ℕ) (xs ys : List N.Value) (is_stop : stop ≡ start + count) (fits : stop ≤ length xs) where
  open N use {Value}

  -- what `xs[start..stop].fill(value)` leaves
  pub part_filled : (value : Value) → ys ≡ replicate (length (part N start stop xs)) value → Written N (from start) count (λ k. value) xs (put_mid start (stop - start) xs ys)
  part_filled value e = part_written N start stop count xs ys is_stop fits (rw e (search (rules, places))) (λ j h. rw e (search (rules, places)))

-- ---- a part at the front: one that starts at 0

from_zero : (k : ℕ) → 0 + k ≡ k
from_zero k = omega arith

module _ (N : NumberForm) (n : ℕ) (xs : List N.Value) where
  pub front_length : n ≤ length xs → length (take n xs) ≡ n
  front_length fits = simp unary_clauses at (part_long N 0 n xs (omega arith) fits)

  pub front_entry : (k : ℕ) → k < n → n ≤ length xs → entry N (take n xs) k ≡ entry N xs k
  front_entry k h fits = simp unary_clauses at (part_entry N 0 n xs k fits (simp unary_clauses (omega (arith, front_length fits)))) ∙ ap (entry N xs) (from_zero k)

-- xs where `xs[..n]` became ys
module _ (N : NumberForm) (n : ℕ) (xs ys : List N.Value) (fits : n ≤ length xs) where
  open N use {Value}

  pub front_written : length ys ≡ n → {f : Vector Value} → ((j : ℕ) → j < n → entry N ys j ≡ f j) → Written N (λ k. k) n f xs (ys ++ drop n xs)
  front_written long {f} e =
      let place : from 0 ≡ (λ k. k) = λ i k. from_zero k i in
      rw place at (simp unary_clauses at (part_written N 0 n n xs ys (omega arith) fits long {f = f} e))

  -- what `xs[..n].fill(value)` leaves
  pub front_filled : (value : Value) → ys ≡ replicate (length (take n xs)) value → Written N (λ k. k) n (λ k. value) xs (ys ++ drop n xs)
  front_filled value e = front_written (rw e (search (rules, places))) (λ j h. rw e (search (rules, places)))

  -- what `copy(&mut xs[..n], &source[..n])` leaves
  pub front_copied : (source : List Value) → n ≤ length source → ys ≡ take n source → Written N (λ k. k) n (entry N source) xs (ys ++ drop n xs)
  front_copied source long e = front_written (rw e (search (rules, places))) (λ j h. rw e (search (rules, places)))
