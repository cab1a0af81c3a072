-- One more row of a substitution with U.
use mathlib.Core.Path.{◌≡◌, ap, ◌∙◌}
use mathlib.Core.List.{List}
use Prim.Native.Nat.{ℕ, suc, ◌+◌, ◌-◌, ◌≤◌, ◌<◌}
use native.Mathlib.Nat.{add-zero}
use native.Mathlib.Numerals.{add-one}
use native.Mathlib.Omega.{arith}
use lib.ListN.{length, set}
use Rattle.numbers.specs.NumberForm.{NumberForm}
use Rattle.machine.specs.Tables.{Table, tabulate}
use Rattle.machine.specs.Products.{entry, sum}
use Rattle.machine.specs.Solves.{substituted, back_substitution, forward_substitution}
use Rattle.machine.proofs.Choice.{tabulate_at, tabulate_length}
use Rattle.machine.proofs.Products.{sum_same}
use Rattle.ranges.specs.Written.{Written}
use Rattle.ranges.specs.Sums.{dot_product}
use Rattle.ranges.proofs.Parts.{part, part_long, part_entry}
use Rattle.ranges.proofs.Vectors.{written_same, written_put}

module _ (N : NumberForm) where
  open N use {Value, absent, sub, mul, div}

  -- a row of U from its diagonal on: the diagonal, and the rest with b's entries
  module _ (n row : ℕ) (U : Table Value) {entries : List Value} (hr : row < n) (e : entries ≡ tabulate (n - row) (λ k. U row (row + k))) where
    pub diagonal_is : entry N entries 0 ≡ U row row
    diagonal_is = (λ t. entry N (e t) 0) ∙ tabulate_at (n - row) _ absent 0 (omega arith) ∙ ap (U row) (add-zero row)

    pub rest_is : (b : List Value) → n ≤ length b → dot_product N (part N 1 (length entries) entries) (part N (row + 1) n b)
        ≡ sum N (n - (row + 1)) (λ k. mul (U row (suc row + k)) (entry N b (suc row + k)))
    rest_is b hb =
        let m = length entries in
        let long : m ≡ n - row = ap length e ∙ tabulate_length (n - row) _ in
        let rest : length (part N 1 m entries) ≡ n - (row + 1) = omega (arith, part_long N 1 m entries (omega arith) (omega arith)) in
        let others : length (part N (row + 1) n b) ≡ n - (row + 1) = part_long N (row + 1) n b (omega arith) hb in
        rw rest (sum_same N (n - (row + 1)) _ _ (λ k l.
        let place : row + (1 + k) ≡ suc row + k = omega arith in
        let place' : row + 1 + k ≡ suc row + k = omega arith in
        let of_row = part_entry N 1 m entries k (omega arith) (omega arith) ∙ (λ t. entry N (e t) (1 + k)) ∙ tabulate_at (n - row) _ absent (1 + k) (omega arith) ∙ ap (U row) place in
        let of_b = part_entry N (row + 1) n b k hb (omega arith) ∙ ap (entry N b) place' in
        λ t. mul (of_row t) (of_b t)))

  module _ (n row : ℕ) (U : Table Value) (b₀ b : List Value) {s p x : Value} (hr : row < n) (hb : n ≤ length b) (is_p : p ≡ U row row)
      (is_x : x ≡ div (sub (entry N b row) s) p) where
    -- the new entry, from what the vector was found to hold and from the sum
    entry_is : {value total : Value} → entry N b row ≡ value → s ≡ total → x ≡ substituted N value total (U row row)
    unfolding substituted
    entry_is e e' = is_x ∙ (λ t. div (sub (e t) (e' t)) (is_p t))

    -- the rows below `row` are done
    pub back_more : Written N (λ i. i) n (back_substitution N n U (entry N b₀) (n - (row + 1))) b₀ b
        → s ≡ sum N (n - (row + 1)) (λ k. mul (U row (suc row + k)) (entry N b (suc row + k)))
        → Written N (λ i. i) n (back_substitution N n U (entry N b₀) (n - row)) b₀ (set b row x)
    unfolding back_substitution
    back_more h e =
        let more : n - row ≡ suc (n - (row + 1)) = omega arith in
        let here : n - suc (n - (row + 1)) ≡ row = omega arith in
        rw more (rw here (written_put N n row hr hb
        (entry_is (h.value row hr) (e ∙ sum_same N (n - (row + 1)) _ _ (λ k l t. mul (U row (suc row + k)) (h.value (suc row + k) (omega arith) t)))) h))

    -- the rows above `row` are done
    pub forward_more : Written N (λ i. i) n (forward_substitution N U (entry N b₀) row) b₀ b → s ≡ sum N row (λ i. mul (U i row) (entry N b i))
        → Written N (λ i. i) n (forward_substitution N U (entry N b₀) (row + 1)) b₀ (set b row x)
    unfolding forward_substitution
    forward_more h e =
        rw add-one (written_put N n row hr hb
        (entry_is (h.value row hr) (e ∙ sum_same N row _ _ (λ i l t. mul (U i row) (h.value i (omega arith) t)))) h)

  -- no row is done
  pub back_none : (n : ℕ) (U : Table Value) (b : List Value) → Written N (λ i. i) n (back_substitution N n U (entry N b) (n - n)) b b
  unfolding back_substitution
  back_none n U b = let e : n - n ≡ 0 = omega arith in rw e (written_same N n b)

  pub forward_none : (n : ℕ) (U : Table Value) (b : List Value) → Written N (λ i. i) n (forward_substitution N U (entry N b) 0) b b
  unfolding forward_substitution
  forward_none n U b = written_same N n b
