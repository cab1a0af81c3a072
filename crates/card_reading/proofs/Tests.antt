-- The tests of words and of blocks as they are computed: a NaN by one comparison, searches by the numbers that they look at, and entries block by block.
use mathlib.Core.Path.{◌≡◌, refl, sym, ap, ◌∙◌}
use mathlib.Core.Bool.{Bool, true, false, not, ◌&&◌, ◌||◌, and-true, not-not}
use mathlib.Core.List.{List, [], ◌∷◌, map}
use Prim.Native.Nat.{ℕ, zero, suc, ◌+◌, ◌-◌, ◌*◌, ◌/◌, ◌%◌, min, ◌≤◌, ◌<◌}
use native.Mathlib.Nat.{zero-add, div-add-mod, div-lt_iff_lt-mul}
use native.Mathlib.Numerals.{add-one}
use native.Mathlib.Omega.{arith}
use lib.Dec.{eqb, ltb}
use lib.Ieee.{binary64, nan_bits}
use lib.Ieee.Bits.{nan_bits_above}
use denote.Param.Members.{Mut}
use Rattle.std.proofs.Common.{Option, Some, None}
use Rattle.std.proofs.iter.Yields.{nat_range_steps}
use Rattle.std.proofs.lemmas.Bool.{not-true}
use Rattle.std.proofs.lemmas.Bool.Decides.{same_from_decides}
use Rattle.std.proofs.lemmas.Float.{T_from_true}
use Rattle.std.proofs.lemmas.Iterator.{YieldsList-from_range}
use Rattle.std.proofs.lemmas.Iterator.Search.{all_from_yields_List}
use Rattle.std.proofs.lemmas.List.Folds.{list_all-append, list_all-map}
use Rattle.std.proofs.lemmas.List.FromFn.{map-range_with_len_more}
use Rattle.std.specs.Fn.{Called}
use Rattle.std.specs.Iterator.{YieldsThen}
use Rattle.std.specs.declared.ops.Range.{Range}
use Rattle.std.specs.List.{FoldsTo, list_all, range_with_len}
use Rattle.std.specs.Option.{MatchOption}
use Rattle.machine.specs.Readiness.{all_below}
use Rattle.machine.proofs.Readiness.{holds_below, true_below}
use Rattle.card_format.specs.Reading.{other_nan, checked, wrong_check, entry_word}
use Rattle.card_format.proofs.Tests.{all_checked, lowest_named}
use Rattle.card_reading.specs.Read.{check_refusal}

-- without its sign a NaN's pattern is above the infinity's
pub nan_is : (w : ℕ) → nan_bits binary64 w ≡ ltb 0x7FF0_0000_0000_0000 (w % 0x8000_0000_0000_0000)
nan_is = nan_bits_above binary64

-- where none of so many words is a NaN's, none of the first is another NaN's
pub no_nan : (word : ℕ → ℕ) (all count : ℕ) → count ≤ all → all_below all (λ k. not (nan_bits binary64 (word k))) ≡ true → all_below count (λ k. not (other_nan (word k))) ≡ true
no_nan word all count few none =
    true_below count _
    (λ k h. ap (λ (nan : Bool). not (nan && not (eqb (word k) 0x7FF8_0000_0000_0000))) (not-true (nan_bits binary64 (word k)) (holds_below all _ none k (omega arith))))

-- one more word, where `before` says that none of those before it is a NaN's
pub found_more : (before nan : Bool) → (not before || nan) ≡ not (before && not nan)
found_more true nan = sym (not-not nan)
found_more false nan = refl

-- the numbers below k, one after another
all_numbers : (k : ℕ) (test : ℕ → Bool) → list_all test (range_with_len 0 k) ≡ all_below k test
unfolding all_below
all_numbers zero test = refl
all_numbers (suc k) test =
    sym (list_all-map (λ b. b) test (range_with_len 0 (suc k)))
    ∙ ap (list_all (λ b. b)) (rw add-one at (map-range_with_len_more test 0 k k (zero-add k)))
    ∙ list_all-append (λ b. b) (map test (range_with_len 0 k)) (test k ∷ [])
    ∙ (λ t. (list_all-map (λ b. b) test (range_with_len 0 k) ∙ all_numbers k test) t && and-true (test k) t)

-- what `all` answers over the numbers below k
pub all_from_range : {F : Type 0} {g : Mut F (ℕ × Unit {0}) Bool} {u : Range ℕ} {f : F} {r : Bool} (k : ℕ) (test : ℕ → Bool)
    → (xs : List ℕ) × (o : Option ℕ) × (j : F) × YieldsThen nat_range_steps (record { start = 0; end = k }) xs o u × FoldsTo (λ p x q. Called g p (x, tt) true q) f xs j
    × MatchOption o (r ≡ true) (λ x. (r ≡ false) × ((h : F) × Called g j (x, tt) false h))
    → ((x : ℕ) (b : Bool) (q : F) → Called g f (x, tt) b q → (q ≡ f) × (b ≡ test x)) → r ≡ all_below k test
all_from_range k test ran closure =
    let whole : k - 0 ≡ k = omega arith in
    all_from_yields_List test _ _ _ ran (YieldsList-from_range 0 k k refl whole) closure ∙ all_numbers k test

-- the places below a count, in groups of one width, of which the last may be shorter
pub all_grouped : (width count groups : ℕ) (test : ℕ → Bool) → 0 < width → count ≤ width * groups
    → all_below groups (λ b. all_below (min (count - width * b) width) (λ k. test (width * b + k))) ≡ all_below count test
all_grouped width count groups test wide enough =
    same_from_decides {P = all_below count test ≡ true} _ _ (
      λ each. true_below count test (λ q h.
          let group : q / width < groups = (div-lt_iff_lt-mul wide).1 (omega arith) in
          let within : q % width < min (count - width * (q / width)) width = omega arith in
          ap test (sym (div-add-mod q width)) ∙ holds_below _ _ (holds_below groups _ each (q / width) group) (q % width) within),
      λ all. true_below groups _ (λ b h. true_below _ _ (λ k l. holds_below count test all (width * b + k) (omega arith))),
    )
    (λ e. e, λ e. e)

-- the entries in a block behind the first
pub block_entry : (word : ℕ → ℕ → ℕ) (b k : ℕ) → k < 63 → word (b + 1) k ≡ entry_word word (63 * b + k)
block_entry word b k h =
    let block : b + 1 ≡ (63 + (63 * b + k)) / 63 = omega arith in
    let place : k ≡ (63 + (63 * b + k)) % 63 = omega arith in
    λ t. word (block t) (place t)

-- the first block below m whose check is wrong
pub first_named : (word : ℕ → ℕ → ℕ) (m : ℕ) (found : Option ℕ)
    → MatchOption found ((b : ℕ) → 0 ≤ b → b < m → checked word b ≡ true)
    (λ block. (0 ≤ block) × (block < m) × (checked word block ≡ false) × ((b : ℕ) → 0 ≤ b → b < block → checked word b ≡ true))
    → check_refusal found ≡ wrong_check word m
first_named word m None right = sym (all_checked word m (λ b l. T_from_true _ (right b (omega arith) l)))
first_named word m (Some block) (_, below, wrong, right) =
    sym (lowest_named word m block below (λ b l. T_from_true _ (right b (omega arith) l)) (rw wrong (λ t. t)))
