-- Parts of a row of the packed triangle U, and their places.
use mathlib.Core.Path.{◌≡◌, sym, ap, ◌∙◌}
use mathlib.Core.Bool.{not, ◌&&◌}
use mathlib.Core.Logic.{◌⊎◌, inl, inr}
use Prim.Native.Nat.{ℕ, ◌+◌, ◌-◌, ◌≤◌, ◌<◌}
use native.Mathlib.Decide.{dec_lt}
use native.Mathlib.Omega.{arith}
use lib.Dec.{T as So, leb, ltb, eqb, le→leb, lt→ltb, T_not}
use lib.Ieee.Fits.{and_i, eq→eqb}
use Rattle.storage.specs.Places.{u_index, UPlace, u_length}
use Rattle.storage.proofs.Places.{u_index_along, u_index_injective, u_index_within}
use Rattle.ranges.specs.Written.{from, Among}

-- the part of a row from column a on, `count` entries long, and its place p
module _ (c row a count p : ℕ) (ha : row ≤ a) (hc : a + count ≤ c) (is-p : p ≡ u_index c row a) where
  pub part_place : (k : ℕ) → k < count → p + k ≡ u_index c row (a + k)
  part_place k h = ap (λ (q : ℕ). q + k) is-p ∙ sym (u_index_along c row a k ha (omega arith))

  -- an entry of another row, or of another column, is not in it
  pub outside_part : (i j : ℕ) → i ≤ j → j < c → ((k : ℕ) → k < count → i ≡ row → j ≡ a + k → ⊥) → ¬ Among (from p) count (u_index c i j)
  outside_part i j hij hj h w =
      let e = u_index_injective c i j row (a + w.0) hij hj (omega arith) (omega arith) (w.2 ∙ part_place w.0 w.1) in
      h w.0 w.1 e.0 e.1

  pub part_free : (n : ℕ) → a + count ≤ n → (q : ℕ) → Among (from p) count q → UPlace c n q
  part_free n h q w = (row, a + w.0, omega arith, omega arith, w.2 ∙ part_place w.0 w.1)

  -- it lies within U, also where it is empty
  pub part_fits : (length : ℕ) → a < c → u_length c ≤ length → p + count ≤ length
  part_fits length h l = go (dec_lt 0 count)
    where
      go : Dec (0 < count) → p + count ≤ length
      go (yes g) = omega (arith, part_place (count - 1) (omega arith), u_index_within c row (a + (count - 1)) (omega arith) (omega arith))
      go (no g) = omega (arith, is-p, u_index_within c row a ha h)

-- an entry that the test of a row from its diagonal on below `columns` leaves out is not in that part
pub left_out : (row columns i j : ℕ) → So (not (eqb i row && (leb row j && ltb j columns))) → (k : ℕ) → k < columns - row → i ≡ row → j ≡ row + k → ⊥
left_out row columns i j s k h e f =
    T_not (eqb i row && (leb row j && ltb j columns)) s
    (and_i (eqb i row) (leb row j && ltb j columns) (eq→eqb e) (and_i (leb row j) (ltb j columns) (le→leb row j (omega arith)) (lt→ltb j columns (omega arith))))

-- two ranges of one length have no place in common, whichever is the earlier
pub ranges_apart : (x y n : ℕ) → (y < x + n → y + n ≤ x) → (x + n ≤ y) ⊎ (y + n ≤ x)
ranges_apart x y n h = go (dec_lt y (x + n))
  where
    go : Dec (y < x + n) → (x + n ≤ y) ⊎ (y + n ≤ x)
    go (yes a) = inr (h a)
    go (no a) = inl (omega arith)
