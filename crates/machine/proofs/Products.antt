-- Independence of sums and products.
use mathlib.Core.Path.{◌≡◌, refl}
use Prim.Native.Nat.{ℕ, zero, suc, ◌<◌}
use native.Mathlib.Omega.{arith}
use Rattle.numbers.specs.NumberForm.{NumberForm}
use Rattle.machine.specs.Tables.{Vector, Table}
use Rattle.machine.specs.Products.{sum, product, product_transposed}

module _ (N : NumberForm) where
  open N use {Value, add, mul}

  pub sum_same : (k : ℕ) (t s : Vector Value) → ((j : ℕ) → j < k → t j ≡ s j) → sum N k t ≡ sum N k s
  unfolding sum
  sum_same zero t s h = refl
  sum_same (suc k) t s h = λ i. add (sum_same k t s (λ j l. h j (omega arith)) i) (h k (omega arith) i)

  module _ (n : ℕ) (L M : Table Value) (v u : Vector Value) (h : (i j : ℕ) → i < n → j < n → L i j ≡ M i j) (e : (j : ℕ) → j < n → v j ≡ u j) where
    pub product_same : (i : ℕ) → i < n → product N n L v i ≡ product N n M u i
    unfolding product
    product_same i hi = sum_same n _ _ (λ j hj k. mul (h i j hi hj k) (e j hj k))

    pub product_transposed_same : (i : ℕ) → i < n → product_transposed N n L v i ≡ product_transposed N n M u i
    unfolding product_transposed
    product_transposed_same i hi = sum_same n _ _ (λ j hj k. mul (h j i hj hi k) (e j hj k))
