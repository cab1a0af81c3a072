-- One more turn of a loop that transforms pairs of two slices; and pairs of which one part of a slice holds the firsts and another the seconds.
use mathlib.Core.Path.{◌≡◌, refl, sym, ◌∙◌}
use mathlib.Core.Bool.{Bool}
use mathlib.Core.List.{List}
use mathlib.Core.Logic.{◌≢◌, ◌⊎◌, inl, inr, ⊎_elim}
use Prim.Native.Nat.{ℕ, ◌+◌, ◌-◌, ◌≤◌, ◌<◌}
use native.Mathlib.Decide.{dec_lt}
use native.Mathlib.Omega.{arith}
use lib.ListN.{length, set, take, drop}
use borrow.Rule.Slice.PartMut.{put_mid}
use Rattle.std.proofs.Common.{◌++◌, ap, length-append}
use Rattle.std.proofs.lemmas.List.{get_or_append_left, get_or-append-add}
use Rattle.numbers.specs.NumberForm.{NumberForm}
use Rattle.numbers.specs.PairStep.{first, second}
use Rattle.machine.specs.Tables.{Vector}
use Rattle.machine.specs.Products.{entry}
use Rattle.storage.specs.Views.{Kept}
use Rattle.storage.proofs.Kept.{kept_more}
use Rattle.ranges.specs.Written.{from, Among, Written}
use Rattle.ranges.proofs.Writing.{unwritten, range_apart, apart, written_more}
use Rattle.ranges.proofs.Parts.{part, part_long, part_entry, part_written}
use Rattle.transforms.specs.RowsTransformed.{RowsTransformed, SlicesTransformed}

module _ (N : NumberForm) where
  open N use {Value, absent}

  -- ---- pairs of two slices

  -- xs stores the firsts at the places p, and ys the seconds at the places q
  module _ (swap : Bool) (m : Value) (p q : ℕ → ℕ) (k : ℕ) (xs₀ ys₀ : List Value) {xs ys : List Value} (apart-p : (j : ℕ) → j < k → p j ≢ p k) (apart-q : (j : ℕ) → j < k → q j ≢ q k)
      (dx : Written N p k (λ j. first N swap (entry N xs₀ (p j)) (entry N ys₀ (q j))) xs₀ xs)
      (dy : Written N q k (λ j. second N swap m (entry N xs₀ (p j)) (entry N ys₀ (q j))) ys₀ ys) where
    old_x : entry N xs (p k) ≡ entry N xs₀ (p k)
    old_x = unwritten N apart-p dx

    old_y : entry N ys (q k) ≡ entry N ys₀ (q k)
    old_y = unwritten N apart-q dy

    pub first_stored : {a : Value} → p k < length xs → a ≡ first N swap (entry N xs (p k)) (entry N ys (q k))
        → Written N p (k + 1) (λ j. first N swap (entry N xs₀ (p j)) (entry N ys₀ (q j))) xs₀ (set xs (p k) a)
    first_stored fits e = written_more N apart-p dx fits (e ∙ (λ i. first N swap (old_x i) (old_y i)))

    pub second_stored : {b : Value} → q k < length ys → b ≡ second N swap m (entry N xs (p k)) (entry N ys (q k))
        → Written N q (k + 1) (λ j. second N swap m (entry N xs₀ (p j)) (entry N ys₀ (q j))) ys₀ (set ys (q k) b)
    second_stored fits e = written_more N apart-q dy fits (e ∙ (λ i. second N swap m (old_x i) (old_y i)))

  -- pairs of xs from x on and of ys from y on
  module _ (swap : Bool) (m : Value) (x y k : ℕ) (xs₀ ys₀ : List Value) {xs ys : List Value}
      (dx : Written N (from x) k (λ j. first N swap (entry N xs₀ (x + j)) (entry N ys₀ (y + j))) xs₀ xs)
      (dy : Written N (from y) k (λ j. second N swap m (entry N xs₀ (x + j)) (entry N ys₀ (y + j))) ys₀ ys) where
    pub firsts_more : {a : Value} → x + k < length xs → a ≡ first N swap (entry N xs (x + k)) (entry N ys (y + k))
        → Written N (from x) (k + 1) (λ j. first N swap (entry N xs₀ (x + j)) (entry N ys₀ (y + j))) xs₀ (set xs (x + k) a)
    firsts_more fits e = first_stored swap m (from x) (from y) k xs₀ ys₀ (range_apart N x k) (range_apart N y k) dx dy fits e

    pub seconds_more : {b : Value} → y + k < length ys → b ≡ second N swap m (entry N xs (x + k)) (entry N ys (y + k))
        → Written N (from y) (k + 1) (λ j. second N swap m (entry N xs₀ (x + j)) (entry N ys₀ (y + j))) ys₀ (set ys (y + k) b)
    seconds_more fits e = second_stored swap m (from x) (from y) k xs₀ ys₀ (range_apart N x k) (range_apart N y k) dx dy fits e

  -- ---- parts that are lent, of xs from x on and of ys from y on

  -- a pair step with that swap and m applied to `count` pairs of two slices, of xs from x (first) and of ys from y (second) on
  abbrev pub RangesTransformed : Bool → Value → (x y count : ℕ) → (xs ys xs' ys' : List Value) → Type 0
  RangesTransformed swap m x y count xs ys xs' ys' =
      Written N (from x) count (λ k. first N swap (entry N xs (x + k)) (entry N ys (y + k))) xs xs'
      × Written N (from y) count (λ k. second N swap m (entry N xs (x + k)) (entry N ys (y + k))) ys ys'

  module _ (swap : Bool) (m : Value) (x y count : ℕ) (xs ys : List Value) {a b : List Value} (fits-x : x + count ≤ length xs) (fits-y : y + count ≤ length ys)
      (done : SlicesTransformed N swap m (part N x (x + count) xs) (part N y (y + count) ys) a b) where
    long-x : length (part N x (x + count) xs) ≡ count
    long-x = omega (arith, part_long N x (x + count) xs (omega arith) fits-x)

    long-y : length (part N y (y + count) ys) ≡ count
    long-y = omega (arith, part_long N y (y + count) ys (omega arith) fits-y)

    within-x : (k : ℕ) → k < count → entry N (part N x (x + count) xs) k ≡ entry N xs (x + k)
    within-x k h = part_entry N x (x + count) xs k fits-x (omega (arith, long-x))

    within-y : (k : ℕ) → k < count → entry N (part N y (y + count) ys) k ≡ entry N ys (y + k)
    within-y k h = part_entry N y (y + count) ys k fits-y (omega (arith, long-y))

    ranges_transformed : RangesTransformed swap m x y count xs ys (put_mid x (x + count - x) xs a) (put_mid y (y + count - y) ys b)
    ranges_transformed = (
      part_written N x (x + count) count xs a refl fits-x (done.0.kept.long ∙ long-x)
          (λ k h. done.0.value k (omega (arith, long-x)) ∙ (λ t. first N swap (within-x k h t) (within-y k h t))),
      part_written N y (y + count) count ys b refl fits-y (done.1.kept.long ∙ long-y)
          (λ k h. done.1.value k (omega (arith, long-x)) ∙ (λ t. second N swap m (within-x k h t) (within-y k h t))),
    )

  -- i and j are the lengths of the parts as the code has them
  pub parts_transformed : (swap : Bool) (m : Value) (x i y j count : ℕ) (xs ys : List Value) {a b : List Value} → i ≡ count → j ≡ count → x + count ≤ length xs → y + count ≤ length ys
      → SlicesTransformed N swap m (take i (drop x xs)) (take j (drop y ys)) a b → RangesTransformed swap m x y count xs ys (put_mid x i xs a) (put_mid y j ys b)
  parts_transformed swap m x i y j count xs ys is_i is_j fits-x fits-y done =
      let p : i ≡ x + count - x = omega arith in
      let q : j ≡ y + count - y = omega arith in
      rw (p, q) (ranges_transformed swap m x y count xs ys fits-x fits-y (rw (p, q) at done))

  -- ---- two parts of one slice, the front `mid` entries long, and what is written to each

  module _ (p mid : ℕ) {count : ℕ} {f g : Vector Value} {a b a' b' : List Value} (long : length a ≡ mid) (fits : p + count ≤ mid)
      (front : Written N (from p) count f a a') (back : Written N (from 0) count g b b') where
    in_front : (k : ℕ) → k < count → entry N a (p + k) ≡ entry N (a ++ b) (p + k)
    in_front k h = sym (get_or_append_left a b absent (p + k) (omega arith))

    in_back : (k : ℕ) → entry N b (0 + k) ≡ entry N (a ++ b) (mid + k)
    in_back k = let e : mid + k ≡ length a + (0 + k) = omega arith in rw e (sym (get_or-append-add a b (0 + k) absent))

    front_written : (k : ℕ) → k < count → entry N (a' ++ b') (p + k) ≡ f k
    front_written k h = get_or_append_left a' b' absent (p + k) (omega (arith, front.kept.long)) ∙ front.value k h

    back_written : (k : ℕ) → k < count → entry N (a' ++ b') (mid + k) ≡ g k
    back_written k h =
        let e : mid + k ≡ length a' + (0 + k) = omega (arith, front.kept.long) in rw e (get_or-append-add a' b' (0 + k) absent ∙ back.value k h)

    parts_kept : Kept N (λ q. Among (from p) count q ⊎ Among (from mid) count q) (a ++ b) (a' ++ b')
    parts_kept = record {
      long = omega (arith, length-append {A = Value}, front.kept.long, back.kept.long);
      same = λ q free. elim (dec_lt q mid) [
        | yes h ↦
            get_or_append_left a' b' absent q (omega (arith, front.kept.long)) ∙ front.kept.same q (λ w. free (inl w)) ∙ sym (get_or_append_left a b absent q (omega arith))
        | no h ↦
            let e : length a + (q - mid) ≡ q = omega arith in
            let e' : q ≡ length a' + (q - mid) = omega (arith, front.kept.long) in
            ap (entry N (a' ++ b')) e' ∙ get_or-append-add a' b' (q - mid) absent ∙ back.kept.same (q - mid) (λ w. free (inr (w.0, w.1, omega arith)))
            ∙ sym (get_or-append-add a b (q - mid) absent) ∙ ap (entry N (a ++ b)) e
      ];
    }

  module _ {swap : Bool} {m : Value} {x y count : ℕ} {a b a' b' : List Value} where
    -- the first of each pair lies in the front
    pub first_in_front : length a ≡ y → x + count ≤ y → RangesTransformed swap m x 0 count a b a' b' → RowsTransformed N swap m x y count (a ++ b) (a' ++ b')
    first_in_front long fits done = record {
      firsts = λ k h. front_written x y long fits done.0 done.1 k h ∙ (λ t. first N swap (in_front x y long fits done.0 done.1 k h t) (in_back x y long fits done.0 done.1 k t));
      seconds = λ k h. back_written x y long fits done.0 done.1 k h ∙ (λ t. second N swap m (in_front x y long fits done.0 done.1 k h t) (in_back x y long fits done.0 done.1 k t));
      kept = parts_kept x y long fits done.0 done.1;
    }

    -- the second of each pair lies in the front
    pub second_in_front : length a ≡ x → y + count ≤ x → RangesTransformed swap m 0 y count b a b' a' → RowsTransformed N swap m x y count (a ++ b) (a' ++ b')
    second_in_front long fits done = record {
      firsts = λ k h. back_written y x long fits done.1 done.0 k h ∙ (λ t. first N swap (in_back y x long fits done.1 done.0 k t) (in_front y x long fits done.1 done.0 k h t));
      seconds = λ k h. front_written y x long fits done.1 done.0 k h ∙ (λ t. second N swap m (in_back y x long fits done.1 done.0 k t) (in_front y x long fits done.1 done.0 k h t));
      kept = kept_more N (λ q w. ⊎_elim inr inl w) (parts_kept y x long fits done.1 done.0);
    }
