-- What is known where the zero-based calls' tests refuse nothing.
use mathlib.Core.Path.{◌≡◌, subst}
use mathlib.Core.Bool.{Bool, true, false, ◌||◌, ◌&&◌}
use Prim.Native.Nat.{ℕ, ◌*◌, ◌≤◌, ◌<◌}
use native.Mathlib.Decide.{ℕ_discrete}
use native.Mathlib.Omega.{arith}
use lib.Dec.{T as So, ltb, eqb}
use lib.IntN.{ℤ, pos, negsuc}
use borrow.Author.Tests.{leb-false, ltb-false, eq-eqb, eqb-false}
use Rattle.std.proofs.lemmas.Bool.{or_parts}
use Rattle.storage.specs.Places.{u_length}
use Rattle.host_numbers.specs.Numbers.{size_of, outside}
use Rattle.zero_based_tests.specs.Refusals.{index_outside, passed_over, update_lacks_room, product_lacks_room, solve_lacks_room}

-- ---- the mode, the dimension and the indices

inside : (k : ℤ) (n : ℕ) → outside k n ≡ false → size_of k < n
inside (pos k) n e = leb-false n k e
inside (negsuc k) n e = absurd (subst So e tt)

module _ (mode one : ℕ) (k : ℤ) (n : ℕ) (e : index_outside mode one k n ≡ false) where
  index_inside : mode ≡ one → size_of k < n
  index_inside h = inside k n (rw (eq-eqb mode one h) at e)

  index_inside_4 : mode ≡ 4 → size_of k < n
  index_inside_4 h = go (eqb mode one) (rw (eq-eqb mode 4 h) at e)
    where
      go : (b : Bool) → ((b || true) && outside k n) ≡ false → size_of k < n
      go true f = inside k n f
      go false f = inside k n f

pub record Passed (mode n : ℕ) (krow kcol : ℤ) : Type 0 where
  pub dimension : 0 < n
  pub least : 0 < mode
  pub greatest : mode ≤ 4
  pub row : 2 < mode → size_of krow < n
  pub column : mode ≡ 2 → size_of kcol < n
  pub column_4 : mode ≡ 4 → size_of kcol < n

pub passed : (mode n : ℕ) (krow kcol : ℤ) → passed_over mode n krow kcol ≡ false → Passed mode n krow kcol
unfolding passed_over
passed mode n krow kcol e =
    let a = or_parts (eqb n 0) _ e in
    let b = or_parts (ltb mode 1) _ a.1 in
    let c = or_parts (ltb 4 mode) _ b.1 in
    let d = or_parts (index_outside mode 3 krow n) (index_outside mode 2 kcol n) c.1 in
    let most : mode ≤ 4 = ltb-false 4 mode c.0 in
    record {
      dimension = omega (arith, eqb-false n 0 a.0);
      least = omega (arith, ltb-false mode 1 b.0);
      greatest = most;
      row = λ h. elim (ℕ_discrete mode 3) [ yes q ↦ index_inside mode 3 krow n d.0 q | no q ↦ index_inside_4 mode 3 krow n d.0 (omega (arith, q)) ];
      column = index_inside mode 2 kcol n d.1;
      column_4 = index_inside_4 mode 2 kcol n d.1;
    }

-- ---- the lengths of buffers

pub update_room : (n c l u y z w : ℕ) → update_lacks_room n c l u y z w ≡ false → (n ≤ c) × (c * c ≤ l) × (u_length c ≤ u) × (n ≤ y) × (n ≤ z) × (n ≤ w)
unfolding update_lacks_room
update_room n c l u y z w e =
    let p = or_parts _ _ e in
    let q = or_parts _ _ p.1 in
    let r = or_parts _ _ q.1 in
    let s = or_parts _ _ r.1 in
    let t = or_parts _ _ s.1 in
    (ltb-false _ _ p.0, ltb-false _ _ q.0, ltb-false _ _ r.0, ltb-false _ _ s.0, ltb-false _ _ t.0, ltb-false _ _ t.1)

pub product_room : (n c l y z : ℕ) → product_lacks_room n c l y z ≡ false → (n ≤ c) × (c * c ≤ l) × (n ≤ y) × (n ≤ z)
unfolding product_lacks_room
product_room n c l y z e =
    let p = or_parts _ _ e in
    let q = or_parts _ _ p.1 in
    let r = or_parts _ _ q.1 in
    (ltb-false _ _ p.0, ltb-false _ _ q.0, ltb-false _ _ r.0, ltb-false _ _ r.1)

pub solve_room : (n c u y : ℕ) → solve_lacks_room n c u y ≡ false → (n ≤ c) × (u_length c ≤ u) × (n ≤ y)
unfolding solve_lacks_room
solve_room n c u y e =
    let p = or_parts _ _ e in
    let q = or_parts _ _ p.1 in
    (ltb-false _ _ p.0, ltb-false _ _ q.0, ltb-false _ _ q.1)
