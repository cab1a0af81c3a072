-- Independence of the solves and of the search for a bad diagonal.
use mathlib.Core.Path.{◌≡◌, refl}
use mathlib.Core.Bool.{cond}
use mathlib.Core.List.{List}
use Prim.Native.Nat.{ℕ, zero, suc, ◌+◌, ◌-◌, ◌≤◌, ◌<◌}
use native.Mathlib.Omega.{arith}
use lib.Dec.{eqb}
use Rattle.numbers.specs.NumberForm.{NumberForm}
use Rattle.machine.specs.Tables.{Vector, Table}
use Rattle.machine.specs.Solves.{substituted, back_substitution, forward_substitution, solution, solution_transpose, bad_diagonal, diagonals}
use Rattle.machine.specs.Calls.{◌or_else◌}
use Rattle.machine.proofs.Choice.{tabulate_same}
use Rattle.machine.proofs.Products.{sum_same, product_same, product_transposed_same}

module _ (N : NumberForm) where
  open N use {Value, mul}

  module _ (n : ℕ) (U U' : Table Value) (hU : (i j : ℕ) → i ≤ j → j < n → U i j ≡ U' i j) where
    pub diagonals_same : (k : ℕ) → k ≤ n → diagonals N U k ≡ diagonals N U' k
    unfolding diagonals
    diagonals_same zero l = refl
    diagonals_same (suc k) l = λ t. diagonals_same k (omega arith) t or_else bad_diagonal N (hU k k (omega arith) (omega arith) t) k

    module _ (b c : Vector Value) (e : (j : ℕ) → j < n → b j ≡ c j) where
      pub back_substitution_same : (k : ℕ) → k ≤ n → (j : ℕ) → j < n → back_substitution N n U b k j ≡ back_substitution N n U' c k j
      unfolding back_substitution
      back_substitution_same zero l j hj = e j hj
      back_substitution_same (suc k) l j hj =
          let row = n - suc k in
          let ih : (i : ℕ) → i < n → back_substitution N n U b k i ≡ back_substitution N n U' c k i = back_substitution_same k (omega arith) in
          let s = sum_same N k (λ i. mul (U row (suc row + i)) (back_substitution N n U b k (suc row + i))) (λ i. mul (U' row (suc row + i)) (back_substitution N n U' c k (suc row + i)))
          (λ i hi t. mul (hU row (suc row + i) (omega arith) (omega arith) t) (ih (suc row + i) (omega arith) t)) in
          λ t. cond (eqb j row) (substituted N (ih row (omega arith) t) (s t) (hU row row (omega arith) (omega arith) t)) (ih j hj t)

      pub forward_substitution_same : (k : ℕ) → k ≤ n → (j : ℕ) → j < n → forward_substitution N U b k j ≡ forward_substitution N U' c k j
      unfolding forward_substitution
      forward_substitution_same zero l j hj = e j hj
      forward_substitution_same (suc k) l j hj =
          let ih : (i : ℕ) → i < n → forward_substitution N U b k i ≡ forward_substitution N U' c k i = forward_substitution_same k (omega arith) in
          let s = sum_same N k (λ i. mul (U i k) (forward_substitution N U b k i)) (λ i. mul (U' i k) (forward_substitution N U' c k i))
          (λ i hi t. mul (hU i k (omega arith) (omega arith) t) (ih i (omega arith) t)) in
          λ t. cond (eqb j k) (substituted N (ih k (omega arith) t) (s t) (hU k k (omega arith) (omega arith) t)) (ih j hj t)

    module _ (L L' : Table Value) (hL : (i j : ℕ) → i < n → j < n → L i j ≡ L' i j) (b : List Value) where
      pub solution_same : solution N (record { n = n; L = L; U = U }) b ≡ solution N (record { n = n; L = L'; U = U' }) b
      unfolding solution
      solution_same =
          tabulate_same n _ _
          (back_substitution_same _ _ (product_same N n L L' _ _ hL (λ _ _. refl)) n (omega arith))

      pub solution_transpose_same : solution_transpose N (record { n = n; L = L; U = U }) b ≡ solution_transpose N (record { n = n; L = L'; U = U' }) b
      unfolding solution_transpose
      solution_transpose_same =
          tabulate_same n _ _
          (product_transposed_same N n L L' _ _ hL (forward_substitution_same _ _ (λ _ _. refl) n (omega arith)))
