-- The eight bytes of a word, and what a slice holds where they were put.
use mathlib.Core.Path.{◌≡◌, refl, ap, ◌∙◌}
use mathlib.Core.List.{List}
use mathlib.Core.Logic.{◌⊎◌, inl, inr}
use Prim.Native.Nat.{ℕ, zero, suc, ◌+◌, ◌-◌, ◌^◌, ◌≤◌, ◌<◌}
use native.Mathlib.Nat.{add-zero, zero-add}
use native.Mathlib.Omega.{arith}
use lib.ListN.{length, get_or}
use borrow.Rule.Slice.PartMut.{put_mid}
use Rattle.std.proofs.Common.{rules, w64}
use Rattle.std.proofs.lemmas.List.{places}
use Rattle.std.specs.Int.{byte_at, bytes_low_first, to_le_bytes}
use Rattle.card_format.specs.Blocks.{byte_of}
use Rattle.card_format.specs.WordsPut.{WordPut}

-- byte i of a number by its place among all, and as `byte_of` has it
low_first : (i k n j : ℕ) → j < k → get_or (bytes_low_first i k n) j 0 ≡ byte_at (i + j) n
low_first i zero n j h = absurd (omega arith)
low_first i (suc k) n zero h = rw add-zero refl
low_first i (suc k) n (suc j) h =
    let e : suc i + j ≡ i + suc j = omega arith in
    low_first (suc i) k n j (omega arith) ∙ ap (λ (p : ℕ). byte_at p n) e

byte_is : (n i : ℕ) → byte_at i n ≡ byte_of n i
byte_is n zero = omega arith
byte_is n (suc i) = refl

word_bytes : (w i : ℕ) → i < 8 → get_or (to_le_bytes w64 w) i 0 ≡ byte_of w i
word_bytes w i h = low_first 0 8 w i h ∙ ap (λ (p : ℕ). byte_at p w) (zero-add i) ∙ byte_is w i

-- a slice where the part of eight bytes at a place became ys
module _ (at stop : ℕ) (old ys : List ℕ) (is_stop : stop ≡ at + 8) (fits : stop ≤ length old) (long : length ys ≡ 8) where
  within : (i : ℕ) → i < 8 → get_or (put_mid at (stop - at) old ys) (at + i) 0 ≡ get_or ys i 0
  within i h = search (rules, places)

  outside : (q : ℕ) → (q < at) ⊎ (at + 8 ≤ q) → get_or (put_mid at (stop - at) old ys) q 0 ≡ get_or old q 0
  outside q (inl h) = search (rules, places)
  outside q (inr h) = search (rules, places)

  long_as_before : length (put_mid at (stop - at) old ys) ≡ length old
  long_as_before = search (rules, places)

pub word_put : (at stop w : ℕ) (old ys : List ℕ) → w < 2 ^ 64 → stop ≡ at + 8 → stop ≤ length old → ys ≡ to_le_bytes w64 w → WordPut at w old (put_mid at (stop - at) old ys)
word_put at stop w old ys bound is_stop fits e =
    let long : length ys ≡ 8 = rw e refl in
    record {
      fits = bound;
      long = long_as_before at stop old ys is_stop fits long;
      put = λ i h. within at stop old ys is_stop fits long i h ∙ ap (λ (bytes : List ℕ). get_or bytes i 0) e ∙ word_bytes w i h;
      kept = outside at stop old ys is_stop fits long;
    }
