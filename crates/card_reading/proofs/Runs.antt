-- Words of a card as doubles, and a buffer that takes them in runs, each of one block: what one more run leaves, and what the buffer is in the end.
use mathlib.Core.Path.{◌≡◌, ◌∙◌}
use mathlib.Core.List.{List}
use Prim.Native.Nat.{ℕ, ◌+◌, ◌-◌, ◌/◌, ◌%◌, ◌≤◌, ◌<◌}
use native.Mathlib.Decide.{dec_lt}
use native.Mathlib.Omega.{arith}
use borrow.Rule.Slice.PartMut.{put_mid}
use lib.Ieee.{Float, binary64, of_bits}
use lib.ListN.{length}
use Rattle.numbers.specs.NumberForm.{NumberForm, ieee}
use Rattle.machine.specs.Tables.{Vector, tabulate}
use Rattle.machine.proofs.Choice.{listed, tabulate_at, tabulate_length}
use Rattle.storage.proofs.Kept.{kept_then, kept_more}
use Rattle.ranges.specs.Written.{from, Written}
use Rattle.ranges.proofs.Parts.{part, part_long, part_written}
use Rattle.card_format.specs.Blocks.{word_in, numbered}

abbrev pub N : NumberForm
N = ieee binary64

-- the double whose bits are word k of block b
abbrev pub value_in : List ℕ → ℕ → ℕ → Float
value_in card b k = of_bits binary64 (word_in card b k)

-- the double whose bits are the word numbered p
abbrev pub value_of : List ℕ → ℕ → Float
value_of card p = of_bits binary64 (numbered (word_in card) p)

-- the words from number p on, as far as they stand in its block
pub in_one_block : (card : List ℕ) (p k : ℕ) → p % 63 + k < 63 → value_in card (p / 63) (p % 63 + k) ≡ value_of card (p + k)
in_one_block card p k h =
    let block : p / 63 ≡ (p + k) / 63 = omega arith in
    let word : p % 63 + k ≡ (p + k) % 63 = omega arith in
    λ t. value_in card (block t) (word t)

-- what a call that tabulates a part of a buffer leaves
pub part_tabulated : (start stop count : ℕ) {f : Vector Float} {xs ys : List Float} → stop ≡ start + count → stop ≤ length xs
    → ys ≡ tabulate (length (part N start stop xs)) f → Written N (from start) count f xs (put_mid start (stop - start) xs ys)
part_tabulated start stop count {f} {xs} {ys} is_stop room e =
    let long : length (part N start stop xs) ≡ count = omega (arith, part_long N start stop xs (omega arith) room) in
    let listed = rw long at e in
    part_written N start stop count xs ys is_stop room (rw listed (tabulate_length count f)) (λ k h. rw listed (tabulate_at count f N.absent k h))

-- a buffer whose first k entries were written
module _ {k : ℕ} {f : Vector Float} {a b : List Float} (front : Written N (λ i. i) k f a b) where
  -- one more run, behind them
  pub run_more : {run : ℕ} {c : List Float} → Written N (from k) run (λ i. f (k + i)) b c → Written N (λ i. i) (k + run) f a c
  run_more {run} {c} more = record {
    value = λ i h. elim (dec_lt i k) [
      | yes l ↦ more.kept.same i (λ w. omega (arith, w.2)) ∙ front.value i l
      | no l ↦ let e : k + (i - k) ≡ i = omega arith in rw e at (more.value (i - k) (omega arith))
    ];
    kept = kept_then N (kept_more N (λ q w. (w.0, omega arith, w.2)) front.kept) (kept_more N (λ q w. (k + w.0, omega arith, w.2)) more.kept);
  }

  -- where they are all that it has
  pub run_all : length a ≤ k → b ≡ tabulate (length a) f
  run_all whole = rw front.kept.long at (listed b f N.absent (λ i h. front.value i (omega (arith, front.kept.long))))
