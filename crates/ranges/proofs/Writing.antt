-- One more turn of a loop that stores: what `Written` says of k places becomes what it says of k + 1; and one more term of a sum.
use mathlib.Core.Path.{◌≡◌, refl, sym, ◌∙◌}
use mathlib.Core.List.{List}
use mathlib.Core.Logic.{◌≢◌}
use Prim.Native.Nat.{ℕ, ◌+◌, ◌<◌}
use native.Mathlib.Numerals.{add-one}
use native.Mathlib.Omega.{arith}
use lib.ListN.{length, set, length-set}
use lib.Seq.{get_or-set_same, get_or-set_other}
use borrow.Author.Count.{below_none, below_more}
use Rattle.numbers.specs.NumberForm.{NumberForm}
use Rattle.machine.specs.Tables.{Vector}
use Rattle.machine.specs.Products.{entry, sum}
use Rattle.storage.proofs.Kept.{kept_all}
use Rattle.ranges.specs.Written.{from, Written}

module _ (N : NumberForm) where
  open N use {Value, zero as 𝟎, absent, add}

  module _ {place : ℕ → ℕ} {f : Vector Value} where
    pub written_none : {l : List Value} → Written N place 0 f l l
    written_none {l} = record { value = below_none (λ k. entry N l (place k) ≡ f k); kept = kept_all N }

    -- no earlier place is stored to again
    module _ {k : ℕ} {old l : List Value} (apart : (j : ℕ) → j < k → place j ≢ place k) (done : Written N place k f old l) where
      -- the place that is next still holds what it held
      pub unwritten : entry N l (place k) ≡ entry N old (place k)
      unwritten = done.kept.same (place k) (λ a. apart a.0 a.1 (sym a.2))

      pub written_more : {x : Value} → place k < length l → x ≡ f k → Written N place (k + 1) f old (set l (place k) x)
      written_more {x} fits is_x = record {
        value = below_more (λ j. entry N (set l (place k) x) (place j) ≡ f j) k
            (λ j h. get_or-set_other l (place k) (place j) x absent (apart j h) ∙ done.value j h)
            (get_or-set_same l (place k) x absent fits ∙ is_x);
        kept = record {
          long = length-set l (place k) x ∙ done.kept.long;
          same = λ q free. get_or-set_other l (place k) q x absent (λ e. free (k, omega arith, e))
              ∙ done.kept.same q (λ a. free (a.0, omega arith, a.2));
        };
      }

  -- places of a range are apart, and those of a vector
  pub range_apart : (start k j : ℕ) → j < k → from start j ≢ from start k
  range_apart start k j h e = omega arith

  pub apart : (k j : ℕ) → j < k → j ≢ k
  apart k j h e = omega arith

  -- the same with a store at a place that was computed
  pub stored : {place : ℕ → ℕ} {f : Vector Value} {k p : ℕ} {old l : List Value} {x : Value} → ((j : ℕ) → j < k → place j ≢ place k) → Written N place k f old l → p ≡ place k
      → p < length l → x ≡ f k → Written N place (k + 1) f old (set l p x)
  stored {place} {f} {k} {p} {old} {l} {x} apart-k done e fits is_x = rw e (written_more apart-k done (rw (← e) fits) is_x)

  pub sum_none : (t : Vector Value) → 𝟎 ≡ sum N 0 t
  unfolding sum
  sum_none t = refl

  -- one more term of a sum
  pub sum_more : (t : Vector Value) {k : ℕ} {s : Value} → s ≡ sum N k t → add s (t k) ≡ sum N (k + 1) t
  unfolding sum
  sum_more t {k} e = rw add-one (λ i. add (e i) (t k))
