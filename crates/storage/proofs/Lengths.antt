-- The lengths exceed usize exactly from capacity 2^32 on; and what a caller learns of an answer of `storage_lengths`.
use mathlib.Core.Path.{◌≡◌, refl, sym, ap, ◌∙◌}
use mathlib.Core.Bool.{Bool, true, false, or-true, cond}
use Prim.Native.Nat.{ℕ, ◌+◌, ◌-◌, ◌^◌, ◌≤◌, ◌<◌}
use native.Mathlib.Nat.{mul-le-mul}
use native.Mathlib.Omega.{arith}
use lib.Dec.{leb}
use borrow.Author.Tests.{le-leb, lt-leb}
use Rattle.std.specs.Prelude.{Result, Ok, Err}
use Rattle.storage.specs.Places.{l_length, u_length, overflows}
use Rattle.storage.specs.Lengths.{lengths, refused, answer_of, required_lengths}
use Rattle.storage.specs.declared.StorageLengths.{StorageLengths}
use Rattle.storage.specs.declared.SizeOverflow.{SizeOverflow}

pub length_fits : (c : ℕ) → c < 2 ^ 32 → l_length c < 2 ^ 64
length_fits c h = omega (arith, mul-le-mul {n₁ = c} {m₁ = c + 1} {n₂ = 2 ^ 32 - 1} {m₂ = 2 ^ 32} (omega arith) (omega arith))

pub not_overflows : (c : ℕ) → c < 2 ^ 32 → overflows c ≡ false
unfolding overflows
not_overflows c h = rw (lt-leb (2 ^ 64) (c + 1) (omega arith), lt-leb (2 ^ 64) (l_length c) (length_fits c h))

pub overflows_from : (c : ℕ) → 2 ^ 32 ≤ c → overflows c ≡ true
unfolding overflows
overflows_from c h =
    rw (le-leb (2 ^ 64) (l_length c) (omega (arith, mul-le-mul {n₁ = 2 ^ 32} {m₁ = 2 ^ 32} {n₂ = c} {m₂ = c + 1} h (omega arith)))) (or-true (leb (2 ^ 64) (c + 1)))

-- ---- what an answer tells

pub refused_overflows : (c : ℕ) {r : Result StorageLengths SizeOverflow} (o : SizeOverflow) → answer_of r ≡ required_lengths c → r ≡ Err o → overflows c ≡ true
refused_overflows c o e k = go (overflows c) (ap answer_of (sym k) ∙ e)
  where
    go : (b : Bool) → refused 2 ≡ cond b (refused 2) (lengths (l_length c) (u_length c)) → b ≡ true
    go true h = refl
    go false h = cc

pub given_lengths : (c : ℕ) {r : Result StorageLengths SizeOverflow} (s : StorageLengths) → answer_of r ≡ required_lengths c → r ≡ Ok s
    → (overflows c ≡ false) × (s.l ≡ l_length c) × (s.u ≡ u_length c)
given_lengths c s e k = go (overflows c) (ap answer_of (sym k) ∙ e)
  where
    go : (b : Bool) → lengths s.l s.u ≡ cond b (refused 2) (lengths (l_length c) (u_length c)) → (b ≡ false) × (s.l ≡ l_length c) × (s.u ≡ u_length c)
    go true h = (cc, cc, cc)
    go false h = (refl, cc, cc)
