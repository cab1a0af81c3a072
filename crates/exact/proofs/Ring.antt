-- Commutative rings: sums, the row operations of a pair step, and the identities behind fractions.
use mathlib.Core.Path.{◌≡◌, refl, sym, ap, ap₂, ◌∙◌}
use mathlib.Core.Bool.{Bool, true, false, cond}
use mathlib.Core.Logic.{◌≢◌}
use Prim.Native.Nat.{ℕ, zero, suc, ◌<◌, ◌≤◌}
use native.Mathlib.Omega.{arith}
use lib.Dec.{ltb, eqb}
use borrow.Author.Tests.{ltb-true, ltb-false, eqb-true, eqb-false, eq-eqb, ne_eqb}
use Rattle.machine.specs.Tables.{Vector, Table, put}

-- ---- cases

pub tested {ℓ} : {C : Type ℓ} (b : Bool) → (b ≡ true → C) → (b ≡ false → C) → C
tested true f g = f refl
tested false f g = g refl

pub equal_or_not {ℓ} : {C : Type ℓ} (i a : ℕ) → (i ≡ a → C) → (i ≢ a → C) → C
equal_or_not i a f g = tested (eqb i a) (λ e. f (eqb-true i a e)) (λ e. g (eqb-false i a e))

pub below_or_not {ℓ} : {C : Type ℓ} (i a : ℕ) → (i < a → C) → (a ≤ i → C) → C
below_or_not i a f g = tested (ltb i a) (λ e. f (ltb-true i a e)) (λ e. g (ltb-false i a e))

-- a function of a choice
pub cond_ap : {A B : Type 0} (f : A → B) (b : Bool) (x y : A) → f (cond b x y) ≡ cond b (f x) (f y)
cond_ap f true x y = refl
cond_ap f false x y = refl

-- ---- rings

pub record CommutativeRing : Type 1 where
  pub F : Type 0
  pub 𝟎 : F
  pub 𝟏 : F
  pub ◌⊕◌ : F → F → F
  pub ◌⊗◌ : F → F → F
  pub ⊖ : F → F
  pub add_assoc : (a b c : F) → ◌⊕◌ (◌⊕◌ a b) c ≡ ◌⊕◌ a (◌⊕◌ b c)
  pub add_comm : (a b : F) → ◌⊕◌ a b ≡ ◌⊕◌ b a
  pub add_zero : (a : F) → ◌⊕◌ a 𝟎 ≡ a
  pub add_neg : (a : F) → ◌⊕◌ a (⊖ a) ≡ 𝟎
  pub mul_assoc : (a b c : F) → ◌⊗◌ (◌⊗◌ a b) c ≡ ◌⊗◌ a (◌⊗◌ b c)
  pub mul_comm : (a b : F) → ◌⊗◌ a b ≡ ◌⊗◌ b a
  pub mul_one : (a : F) → ◌⊗◌ a 𝟏 ≡ a
  pub distrib : (a b c : F) → ◌⊗◌ (◌⊕◌ a b) c ≡ ◌⊕◌ (◌⊗◌ a c) (◌⊗◌ b c)

-- a column of a table
abbrev pub column_of : {A : Type 0} → Table A → ℕ → Vector A
column_of M j i = M i j

-- a table with v as its column r
abbrev pub with_column : {A : Type 0} → ℕ → Vector A → Table A → Table A
with_column r v M i j = cond (eqb j r) (v i) (M i j)

module _ (ring : CommutativeRing) where
  open ring use {F, 𝟎, 𝟏, ◌⊕◌, ◌⊗◌, ⊖, add_assoc, add_comm, add_zero, add_neg, mul_assoc, mul_comm, mul_one, distrib}

  infixl 60 ◌⊕◌
  infixl 70 ◌⊗◌
  distrib_left : (a b c : F) → a ⊗ (b ⊕ c) ≡ a ⊗ b ⊕ a ⊗ c
  distrib_left a b c = mul_comm a (b ⊕ c) ∙ distrib b c a ∙ ap₂ ◌⊕◌ (mul_comm b a) (mul_comm c a)

  mul_left_comm : (a b c : F) → a ⊗ (b ⊗ c) ≡ b ⊗ (a ⊗ c)
  mul_left_comm a b c = sym (mul_assoc a b c) ∙ ap (λ (t : F). t ⊗ c) (mul_comm a b) ∙ mul_assoc b a c

  add_left_comm : (a b c : F) → a ⊕ (b ⊕ c) ≡ b ⊕ (a ⊕ c)
  add_left_comm a b c = sym (add_assoc a b c) ∙ ap (λ (t : F). t ⊕ c) (add_comm a b) ∙ add_assoc b a c

  zero_add : (a : F) → 𝟎 ⊕ a ≡ a
  zero_add a = add_comm 𝟎 a ∙ add_zero a

  -- what changes nothing is zero
  add_cancel : (a b : F) → a ⊕ b ≡ b → a ≡ 𝟎
  add_cancel a b h =
      sym (add_zero a) ∙ ap (λ (x : F). a ⊕ x) (sym (add_neg b)) ∙ sym (add_assoc a b (⊖ b)) ∙ ap (λ (x : F). x ⊕ ⊖ b) h ∙ add_neg b

  pub zero_mul : (a : F) → 𝟎 ⊗ a ≡ 𝟎
  zero_mul a = add_cancel (𝟎 ⊗ a) (𝟎 ⊗ a) (sym (distrib 𝟎 𝟎 a) ∙ ap (λ (x : F). x ⊗ a) (add_zero 𝟎))

  pub mul_zero : (a : F) → a ⊗ 𝟎 ≡ 𝟎
  mul_zero a = mul_comm a 𝟎 ∙ zero_mul a

  one_mul : (a : F) → 𝟏 ⊗ a ≡ a
  one_mul a = mul_comm 𝟏 a ∙ mul_one a

  -- ---- sums

  unfoldable pub Σ : ℕ → Vector F → F
  Σ zero f = 𝟎
  Σ (suc k) f = Σ k f ⊕ f k

  pub Σ_same : (n : ℕ) (f g : Vector F) → ((j : ℕ) → j < n → f j ≡ g j) → Σ n f ≡ Σ n g
  unfolding Σ
  Σ_same zero f g h = refl
  Σ_same (suc k) f g h = ap₂ ◌⊕◌ (Σ_same k f g (λ j l. h j (omega arith))) (h k (omega arith))

  Σ_zero : (n : ℕ) → Σ n (λ j. 𝟎) ≡ 𝟎
  unfolding Σ
  Σ_zero zero = refl
  Σ_zero (suc k) = ap (λ (x : F). x ⊕ 𝟎) (Σ_zero k) ∙ add_zero 𝟎

  Σ_add : (n : ℕ) (f g : Vector F) → Σ n (λ j. f j ⊕ g j) ≡ Σ n f ⊕ Σ n g
  unfolding Σ
  Σ_add zero f g = sym (add_zero 𝟎)
  Σ_add (suc k) f g = ap (λ (x : F). x ⊕ (f k ⊕ g k)) (Σ_add k f g) ∙ simp (add_assoc, add_comm, add_left_comm)

  Σ_scale : (n : ℕ) (m : F) (f : Vector F) → Σ n (λ j. m ⊗ f j) ≡ m ⊗ Σ n f
  unfolding Σ
  Σ_scale zero m f = sym (mul_zero m)
  Σ_scale (suc k) m f = ap (λ (x : F). x ⊕ m ⊗ f k) (Σ_scale k m f) ∙ sym (distrib_left m (Σ k f) (f k))

  -- two sums that differ at r alone, where the first has 0
  pub Σ_except : (n r : ℕ) (f g : Vector F) → r < n → f r ≡ 𝟎 → ((j : ℕ) → j < n → j ≢ r → f j ≡ g j) → Σ n g ≡ Σ n f ⊕ g r
  unfolding Σ
  Σ_except zero r f g l z h = absurd (omega arith)
  Σ_except (suc k) r f g l z h = equal_or_not k r
      (λ e. ap₂ ◌⊕◌ (sym (Σ_same k f g (λ j b. h j (omega arith) (omega arith)))) (ap g e)
      ∙ ap (λ (x : F). x ⊕ g r) (sym (ap (λ (x : F). Σ k f ⊕ x) (ap f e ∙ z) ∙ add_zero (Σ k f))))
      (λ d. ap₂ ◌⊕◌ (Σ_except k r f g (omega arith) z (λ j b. h j (omega arith))) (sym (h k (omega arith) d)) ∙ simp (add_assoc, add_comm, add_left_comm))

  -- a row that is 1 at r and else 0
  pub Σ_unit : (n r : ℕ) (f x : Vector F) → r < n → f r ≡ 𝟏 → ((j : ℕ) → j < n → j ≢ r → f j ≡ 𝟎) → Σ n (λ j. f j ⊗ x j) ≡ x r
  Σ_unit n r f x l u h =
      Σ_except n r (λ j. 𝟎) (λ j. f j ⊗ x j) l refl (λ j b e. sym (ap (λ (t : F). t ⊗ x j) (h j b e) ∙ zero_mul (x j)))
      ∙ ap₂ ◌⊕◌ (Σ_zero n) (ap (λ (t : F). t ⊗ x r) u ∙ one_mul (x r))
      ∙ zero_add (x r)

  -- M x
  abbrev pub image : ℕ → Table F → Vector F → Vector F
  image n M x i = Σ n (λ j. M i j ⊗ x j)

  -- M A = R in the rows below n and the columns below q, and M sends only the zero column to zero
  pub record Factorization (n q : ℕ) (A M R : Table F) : Type 0 where
    pub product : (i k : ℕ) → i < n → k < q → image n M (column_of A k) i ≡ R i k
    pub regular : (x : Vector F) → ((i : ℕ) → i < n → image n M x i ≡ 𝟎) → (j : ℕ) → j < n → x j ≡ 𝟎

  -- only those entries matter
  pub factorization_same : {n q : ℕ} {A A' M M' R R' : Table F} → ((i k : ℕ) → i < n → k < q → A' i k ≡ A i k) → ((i j : ℕ) → i < n → j < n → M' i j ≡ M i j)
      → ((i k : ℕ) → i < n → k < q → R i k ≡ R' i k) → Factorization n q A M R → Factorization n q A' M' R'
  factorization_same {n} a m r h = record {
    product = λ i k hi hk. Σ_same n _ _ (λ j hj t. m i j hi hj t ⊗ a j k hj hk t) ∙ h.product i k hi hk ∙ r i k hi hk;
    regular = λ x z. h.regular x (λ i hi. sym (Σ_same n _ _ (λ j hj t. m i j hi hj t ⊗ x j)) ∙ z i hi);
  }

  pub right_same : {n q : ℕ} {A M R R' : Table F} → ((i k : ℕ) → i < n → k < q → R i k ≡ R' i k) → Factorization n q A M R → Factorization n q A M R'
  right_same = factorization_same (λ i k hi hk. refl) (λ i j hi hj. refl)

  -- A' is A with another column k, whose image is v
  pub column_in : {n q p : ℕ} {A M R : Table F} (k : ℕ) (v : Vector F) (A' : Table F) → p ≤ q → ((i j : ℕ) → j ≢ k → A' i j ≡ A i j)
      → ((i : ℕ) → i < n → image n M (column_of A' k) i ≡ v i) → Factorization n q A M R → Factorization n p A' M (with_column k v R)
  column_in {n} {M = M} k v A' l other image-k h = record {
    product = λ i j hi hj. equal_or_not j k
        (λ e. rw (eq-eqb j k e, e) (image-k i hi))
        (λ d. rw (ne_eqb j k d) (Σ_same n _ _ (λ t ht. ap (λ (x : F). M i t ⊗ x) (other t j d)) ∙ h.product i j hi (omega arith)));
    regular = h.regular;
  }

  -- at dimension zero
  pub empty_factorization : {A M R : Table F} → Factorization 0 0 A M R
  empty_factorization = record { product = λ i k hi hk. absurd (omega arith); regular = λ x z j hj. absurd (omega arith) }

  -- ---- a pair step as a row operation

  -- c' is c with a pair step of that swap and multiplier m applied to its entries a (first) and b (second)
  pub record Stepped (swap : Bool) (m : F) (a b : ℕ) (c c' : Vector F) : Type 0 where
    pub first : c' a ≡ cond swap (c b) (c a)
    pub second : c' b ≡ cond swap (c a) (c b) ⊕ m ⊗ cond swap (c b) (c a)
    pub other : (i : ℕ) → i ≢ a → i ≢ b → c' i ≡ c i

  module _ {swap : Bool} {m : F} {a b : ℕ} where
    pub zero_stepped : Stepped swap m a b (λ i. 𝟎) (λ i. 𝟎)
    zero_stepped = record {
      first = go swap;
      second = sym (add_zero 𝟎) ∙ ap₂ ◌⊕◌ (go swap) (sym (mul_zero m) ∙ ap (λ (x : F). m ⊗ x) (go swap));
      other = λ i x y. refl;
    }
      where
        go : (s : Bool) → 𝟎 ≡ cond s 𝟎 𝟎
        go true = refl
        go false = refl

    -- the column j of two tables with v and v' as their column r
    pub stepped_column : (r j : ℕ) {v v' c c' : Vector F} → Stepped swap m a b v v' → Stepped swap m a b c c'
        → Stepped swap m a b (λ i. cond (eqb j r) (v i) (c i)) (λ i. cond (eqb j r) (v' i) (c' i))
    stepped_column r j h g = equal_or_not j r (λ e. rw (eq-eqb j r e) h) (λ d. rw (ne_eqb j r d) g)

    module _ {n : ℕ} (ha : a < n) (hb : b < n) where
      pub stepped_same : {c c' d d' : Vector F} → Stepped swap m a b c c' → Stepped swap m a b d d' → ((i : ℕ) → i < n → c i ≡ d i) → (i : ℕ) → i < n → c' i ≡ d' i
      stepped_same h g e i hi = equal_or_not i a
          (λ p. rw p (h.first ∙ (λ t. cond swap (e b hb t) (e a ha t)) ∙ sym g.first))
          (λ p. equal_or_not i b
          (λ q. rw q (h.second ∙ (λ t. cond swap (e a ha t) (e b hb t) ⊕ m ⊗ cond swap (e b hb t) (e a ha t)) ∙ sym g.second))
          (λ q. h.other i p q ∙ e i hi ∙ sym (g.other i p q)))

      stepped_zero : {c c' : Vector F} → Stepped swap m a b c c' → ((i : ℕ) → i < n → c' i ≡ 𝟎) → (i : ℕ) → i < n → c i ≡ 𝟎
      stepped_zero {c} h z i hi = equal_or_not i a (λ e. ap c e ∙ both.0) (λ p. equal_or_not i b (λ e. ap c e ∙ both.1) (λ q. sym (h.other i p q) ∙ z i hi))
        where
          one : cond swap (c b) (c a) ≡ 𝟎
          one = sym h.first ∙ z a ha

          two : cond swap (c a) (c b) ≡ 𝟎
          two =
              sym (add_zero (cond swap (c a) (c b)))
              ∙ ap (λ (x : F). cond swap (c a) (c b) ⊕ x) (sym (ap (λ (x : F). m ⊗ x) one ∙ mul_zero m))
              ∙ sym h.second
              ∙ z b hb

          go : (s : Bool) → cond s (c b) (c a) ≡ 𝟎 → cond s (c a) (c b) ≡ 𝟎 → (c a ≡ 𝟎) × (c b ≡ 𝟎)
          go true x y = (y, x)
          go false x y = (x, y)

          both : (c a ≡ 𝟎) × (c b ≡ 𝟎)
          both = go swap one two

      module _ {M M' : Table F} (h : (j : ℕ) → j < n → Stepped swap m a b (column_of M j) (column_of M' j)) where
        stepped_image : (x : Vector F) → Stepped swap m a b (image n M x) (image n M' x)
        stepped_image x = record {
          first = Σ_same n _ _ (λ j hj. ap (λ (t : F). t ⊗ x j) (h j hj).first) ∙ go swap (M b) (M a);
          second = Σ_same n _ _ (λ j hj. ap (λ (t : F). t ⊗ x j) (h j hj).second ∙ distrib _ _ (x j) ∙ ap (λ (t : F). cond swap (M a j) (M b j) ⊗ x j ⊕ t) (mul_assoc m _ (x j)))
              ∙ Σ_add n _ _ ∙ ap₂ ◌⊕◌ (go swap (M a) (M b)) (Σ_scale n m _ ∙ ap (λ (t : F). m ⊗ t) (go swap (M b) (M a)));
          other = λ i p q. Σ_same n _ _ (λ j hj. ap (λ (t : F). t ⊗ x j) ((h j hj).other i p q));
        }
          where
            go : (s : Bool) (u v : Vector F) → Σ n (λ j. cond s (u j) (v j) ⊗ x j) ≡ cond s (Σ n (λ j. u j ⊗ x j)) (Σ n (λ j. v j ⊗ x j))
            go true u v = refl
            go false u v = refl

        pub stepped_factorization : {q : ℕ} {A R R' : Table F} → ((k : ℕ) → k < q → Stepped swap m a b (column_of R k) (column_of R' k))
            → Factorization n q A M R → Factorization n q A M' R'
        stepped_factorization {A = A} g s = record {
          product = λ i k hi hk. stepped_same (stepped_image (column_of A k)) (g k hk) (λ i hi. s.product i k hi hk) i hi;
          regular = λ x z. s.regular x (stepped_zero (stepped_image x) z);
        }

  -- M sends only the zero column to zero, its column r is 0 but at s, x is 0 at r, and M x is 0 but at s: then x is 0.
  -- For with α = M(s,r) and β = (M x)(s), M sends αx with −β at r to zero, so that β is zero.
  module _ (n r s : ℕ) (M : Table F) (hr : r < n) (reg : (x : Vector F) → ((i : ℕ) → i < n → image n M x i ≡ 𝟎) → (j : ℕ) → j < n → x j ≡ 𝟎)
      (hM : (i : ℕ) → i < n → i ≢ s → M i r ≡ 𝟎) (x : Vector F) (hx : x r ≡ 𝟎) (z : (i : ℕ) → i < n → i ≢ s → image n M x i ≡ 𝟎) where
    α : F
    α = M s r

    β : F
    β = image n M x s

    u : Vector F
    u = put r (⊖ β) (λ j. α ⊗ x j)

    u_at : u r ≡ ⊖ β
    unfolding u
    u_at = rw (eq-eqb r r refl)

    image_u : (i : ℕ) → image n M u i ≡ α ⊗ image n M x i ⊕ M i r ⊗ ⊖ β
    unfolding u
    image_u i =
        Σ_except n r (λ j. α ⊗ (M i j ⊗ x j)) (λ j. M i j ⊗ u j) hr (ap (λ (t : F). α ⊗ (M i r ⊗ t)) hx ∙ ap (λ (t : F). α ⊗ t) (mul_zero (M i r)) ∙ mul_zero α)
        (λ j hj d. rw (ne_eqb j r d) (mul_left_comm α (M i j) (x j)))
        ∙ ap₂ ◌⊕◌ (Σ_scale n α (λ j. M i j ⊗ x j)) (ap (λ (t : F). M i r ⊗ t) u_at)

    u_zero : (i : ℕ) → i < n → image n M u i ≡ 𝟎
    unfolding α β
    u_zero i hi = image_u i ∙ equal_or_not i s
        (λ e. rw e (sym (distrib_left α β (⊖ β)) ∙ ap (λ (t : F). α ⊗ t) (add_neg β) ∙ mul_zero α))
        (λ d. ap₂ (λ (a b : F). α ⊗ a ⊕ b ⊗ ⊖ β) (z i hi d) (hM i hi d) ∙ ap₂ ◌⊕◌ (mul_zero α) (zero_mul (⊖ β)) ∙ add_zero 𝟎)

    β_zero : β ≡ 𝟎
    β_zero = sym (add_zero β) ∙ ap (λ (t : F). β ⊕ t) (sym (reg u u_zero r hr) ∙ u_at) ∙ add_neg β

    pub zero_vector : (j : ℕ) → j < n → x j ≡ 𝟎
    unfolding β
    zero_vector = reg x (λ i hi. equal_or_not i s (λ e. rw e β_zero) (z i hi))

  -- ---- fractions a/x, b/y, c/z: both sides over one denominator

  -- a/x + b/y + c/z, bracketed either way
  pub sum_assoc : (a b c x y z : F) → (a ⊗ y ⊕ b ⊗ x) ⊗ z ⊕ c ⊗ (x ⊗ y) ≡ a ⊗ (y ⊗ z) ⊕ (b ⊗ z ⊕ c ⊗ y) ⊗ x
  sum_assoc a b c x y z = simp (distrib, mul_assoc, mul_comm, add_assoc)

  -- (a/x + b/y) c/z = a/x c/z + b/y c/z, crosswise
  pub sum_product : (a b c x y z : F) → (a ⊗ y ⊕ b ⊗ x) ⊗ c ⊗ (x ⊗ z ⊗ (y ⊗ z)) ≡ (a ⊗ c ⊗ (y ⊗ z) ⊕ b ⊗ c ⊗ (x ⊗ z)) ⊗ (x ⊗ y ⊗ z)
  sum_product a b c x y z = simp (distrib, mul_assoc, mul_comm, mul_left_comm)

  swap₃ : (a b c : F) → a ⊗ b ⊗ c ≡ a ⊗ c ⊗ b
  swap₃ a b c = simp (mul_assoc, mul_comm)

  swap₄ : (a b c d : F) → a ⊗ b ⊗ (c ⊗ d) ≡ a ⊗ c ⊗ (b ⊗ d)
  swap₄ a b c d = simp (mul_assoc, mul_left_comm)

  -- where a/x = a'/x', a/x + b/y = a'/x' + b/y
  pub sum_cross : (a a' b x x' y : F) → a ⊗ x' ≡ a' ⊗ x → (a ⊗ y ⊕ b ⊗ x) ⊗ (x' ⊗ y) ≡ (a' ⊗ y ⊕ b ⊗ x') ⊗ (x ⊗ y)
  sum_cross a a' b x x' y h =
      distrib (a ⊗ y) (b ⊗ x) (x' ⊗ y)
      ∙ ap₂ ◌⊕◌ (swap₄ a y x' y ∙ ap (λ (t : F). t ⊗ (y ⊗ y)) h ∙ sym (swap₄ a' y x y)) (swap₄ b x x' y)
      ∙ sym (distrib (a' ⊗ y) (b ⊗ x') (x ⊗ y))

  -- and a/x b/y = a'/x' b/y
  pub product_cross : (a a' b x x' y : F) → a ⊗ x' ≡ a' ⊗ x → a ⊗ b ⊗ (x' ⊗ y) ≡ a' ⊗ b ⊗ (x ⊗ y)
  product_cross a a' b x x' y h = swap₄ a b x' y ∙ ap (λ (t : F). t ⊗ (b ⊗ y)) h ∙ sym (swap₄ a' b x y)

  -- where a/x = b/y and b/y = c/z, a/x = c/z but for the factor y
  pub cross_trans : (a b c x y z : F) → a ⊗ y ≡ b ⊗ x → b ⊗ z ≡ c ⊗ y → a ⊗ z ⊗ y ≡ c ⊗ x ⊗ y
  cross_trans a b c x y z h k = swap₃ a z y ∙ ap (λ (t : F). t ⊗ z) h ∙ swap₃ b x z ∙ ap (λ (t : F). t ⊗ x) k ∙ swap₃ c y x
