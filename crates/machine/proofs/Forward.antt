-- Independence of Forward: it reads the factors below m, and y from its first row below `columns`.
use mathlib.Core.Path.{◌≡◌, refl}
use mathlib.Core.Bool.{cond, ◌&&◌}
use Prim.Native.Nat.{ℕ, zero, suc, ◌-◌, ◌≤◌, ◌<◌}
use native.Mathlib.Omega.{arith}
use lib.Dec.{leb, ltb, eqb}
use lib.Ieee.Fits.{and_r}
use Rattle.numbers.specs.NumberForm.{NumberForm}
use Rattle.numbers.specs.PairStep.{Step, pair_step, first, second}
use Rattle.machine.specs.Tables.{Table, Work}
use Rattle.machine.specs.Forward.{copy_dense_to_row, transform_rows, forward_acts, forward_transform, forward_row, forward_rows, forward}
use Rattle.machine.specs.Agreement.{AgreeWithin}
use Rattle.machine.proofs.Choice.{choose, in_range, in_range_after, within_cond}

module _ (N : NumberForm) where
  open N use {Value}

  pub transform_rows_same : (m a b : ℕ) {p q : Step Value} (L M : Table Value) → p ≡ q → a < m → b < m → ((i j : ℕ) → i < m → j < m → L i j ≡ M i j)
      → (i j : ℕ) → i < m → j < m → transform_rows N p.swap p.multiplier a b L i j ≡ transform_rows N q.swap q.multiplier a b M i j
  unfolding transform_rows
  transform_rows_same m a b L M e ha hb h i j hi hj =
      λ k. cond (eqb i a) (first N (e k).swap (h a j ha hj k) (h b j hb hj k))
      (cond (eqb i b) (second N (e k).swap (e k).multiplier (h a j ha hj k) (h b j hb hj k)) (h i j hi hj k))

-- k is how much of v is carried along
module _ (N : NumberForm) (E T : N.Value) (m columns k : ℕ) (hc : columns ≤ m) where
  open N use {Value}

  forward_transform_same : (last row lo : ℕ) {p q : Step Value} {S R : Work Value} → p ≡ q → last < m → lo ≤ row → row < columns → AgreeWithin m lo columns k S R
      → AgreeWithin m lo columns k (forward_transform N last columns row p S) (forward_transform N last columns row q R)
  unfolding forward_transform
  forward_transform_same last row lo {p} {q} {S} {R} e hl ho hr h = record {
    L = transform_rows_same N m _ _ S.L R.L e (omega arith) (omega arith) h.L;
    U = λ i j hij hj. choose (eqb i row)
        (λ _. choose (eqb j row) (λ _ t. (e t).x) (λ _. choose (ltb row j && ltb j columns)
        (λ s. let f = in_range_after row columns j s in λ t. first N (e t).swap (h.U i j hij hj t) (h.y j (omega arith) f.1 t))
        (λ _. h.U i j hij hj)))
        (λ _. h.U i j hij hj);
    y = λ j a b. choose (eqb j row) (λ _. refl) (λ _. choose (ltb row j && ltb j columns)
        (λ s. let f = in_range_after row columns j s in λ t. second N (e t).swap (e t).multiplier (h.U row j (omega arith) (omega arith) t) (h.y j a b t))
        (λ _. h.y j a b));
    v = h.v;
  }

  pub forward_row_same : (last row lo : ℕ) {S R : Work Value} → last < m → lo ≤ row → row < columns → AgreeWithin m lo columns k S R
      → AgreeWithin m lo columns k (forward_row N E T last columns row S) (forward_row N E T last columns row R)
  unfolding forward_row
  forward_row_same last row lo {S} {R} hl ho hr h =
      let u : S.U row row ≡ R.U row row = h.U row row (omega arith) (omega arith) in
      let x : S.y row ≡ R.y row = h.y row ho hr in
      within_cond _ _ (λ t. forward_acts N E (u t) (x t)) (forward_transform_same last row lo (λ t. pair_step N T (u t) (x t)) hl ho hr h) h

  pub forward_rows_same : (start last d : ℕ) {S R : Work Value} → last < m → last ≤ columns → d ≤ last - start → AgreeWithin m start columns k S R
      → AgreeWithin m start columns k (forward_rows N E T start last columns d S) (forward_rows N E T start last columns d R)
  unfolding forward_rows
  forward_rows_same start last zero hl hk hr h = h
  forward_rows_same start last (suc d) hl hk hr h =
      forward_row_same last _ start hl (omega arith) (omega arith) (forward_rows_same start last d hl hk (omega arith) h)

  pub copy_dense_same : (last lo : ℕ) {S R : Work Value} → lo ≤ last → AgreeWithin m lo columns k S R
      → AgreeWithin m lo columns k (copy_dense_to_row last columns S) (copy_dense_to_row last columns R)
  unfolding copy_dense_to_row
  copy_dense_same last lo ho h = record {
    L = h.L;
    U = λ i j hij hj. choose (eqb i last && (leb last j && ltb j columns))
        (λ s. let f = in_range last columns j (and_r (eqb i last) (leb last j && ltb j columns) s) in h.y j (omega arith) f.1)
        (λ _. h.U i j hij hj);
    y = h.y;
    v = h.v;
  }

  pub forward_same : (start last : ℕ) {S R : Work Value} → last < m → start ≤ last → last ≤ columns → AgreeWithin m start columns k S R
      → AgreeWithin m start columns k (forward N E T start last columns S) (forward N E T start last columns R)
  unfolding forward
  forward_same start last hl ho hk h = copy_dense_same _ start (omega arith) (forward_rows_same start last _ hl hk (omega arith) h)
