-- Independence of the counts: what is not active has no part in how many pair steps are made.
use mathlib.Core.Path.{◌≡◌, refl, ap, ◌∙◌, subst}
use mathlib.Core.Bool.{cond}
use mathlib.Core.List.{List}
use mathlib.Core.Option.{Option, none, some}
use Prim.Native.Nat.{ℕ, zero, suc, ◌+◌, ◌-◌, ◌≤◌, ◌<◌}
use native.Mathlib.Omega.{arith}
use lib.Dec.{ltb, eqb, ltb→lt}
use Rattle.numbers.specs.NumberForm.{NumberForm}
use Rattle.machine.specs.Tables.{Table, State, Work}
use Rattle.machine.specs.Products.{entry}
use Rattle.machine.specs.Forward.{forward_acts}
use Rattle.machine.specs.Backward.{trim, backward_skips}
use Rattle.machine.specs.Calls.{Call, push, replace_row, replace_column, remove, solve, solve_transpose, Answer}
use Rattle.machine.specs.Machine.{index_tests, refusal}
use Rattle.machine.specs.Agreement.{Agree, AgreeWithin}
use Rattle.machine.specs.Counts.{forward_row_count, backward_row_count, forward_rows_count, forward_count, backward_rows_count, backward_count, restored_from_count, restored_count, pushed_count, column_replaced_count, row_replaced_from_count, row_replaced_count, column_dropped_count, removed_count, accepted_count, count_under, count}
use Rattle.machine.proofs.Choice.{choose}
use Rattle.machine.proofs.Forward.{forward_rows_same}
use Rattle.machine.proofs.Backward.{trim_same, trim_le, trim_ge, copy_row_same, backward_rows_same, backward_same}
use Rattle.machine.proofs.Updates.{put_selected_same, bordered_same, column_placed_same, last_column_placed_same, column_moved_same, column_taken_same, unit_row_set_same}
use Rattle.machine.proofs.Refusals.{or_else_none, index_within, refusal_passed}
use Rattle.machine.proofs.Step.{refusal_same}

-- ---- Forward: k is how much of v is carried along

module _ (N : NumberForm) (E T : N.Value) (m columns k : ℕ) (hc : columns ≤ m) where
  open N use {Value}

  pub forward_row_count_same : (row lo : ℕ) {S R : Work Value} → lo ≤ row → row < columns → AgreeWithin m lo columns k S R → forward_row_count N E row S ≡ forward_row_count N E row R
  unfolding forward_row_count
  forward_row_count_same row lo {S} {R} ho hr h =
      let u : S.U row row ≡ R.U row row = h.U row row (omega arith) (omega arith) in
      λ t. cond (forward_acts N E (u t) (h.y row ho hr t)) 1 0

  pub forward_rows_count_same : (start last d : ℕ) {S R : Work Value} → last < m → last ≤ columns → d ≤ last - start → AgreeWithin m start columns k S R
      → forward_rows_count N E T start last columns d S ≡ forward_rows_count N E T start last columns d R
  unfolding forward_rows_count
  forward_rows_count_same start last zero hl hk hr h = refl
  forward_rows_count_same start last (suc d) hl hk hr h =
      let before = forward_rows_count_same start last d hl hk (omega arith) h in
      let row = forward_row_count_same (start + d) start (omega arith) (omega arith) (forward_rows_same N E T m columns k hc start last d hl hk (omega arith) h) in
      λ t. before t + row t

  pub forward_count_same : (start last : ℕ) {S R : Work Value} → last < m → last ≤ columns → AgreeWithin m start columns k S R
      → forward_count N E T start last columns S ≡ forward_count N E T start last columns R
  unfolding forward_count
  forward_count_same start last hl hk h = forward_rows_count_same start last (last - start) hl hk (omega arith) h

-- ---- Backward

module _ (N : NumberForm) (E T : N.Value) (m columns : ℕ) (hc : columns ≤ m) where
  open N use {Value}

  pub backward_row_count_same : (selected row lo : ℕ) {S R : Work Value} → selected < m → row < m → AgreeWithin m lo columns m S R
      → backward_row_count N E selected row S ≡ backward_row_count N E selected row R
  unfolding backward_row_count
  backward_row_count_same selected row lo hs hr h = λ t. cond (backward_skips N E (h.v selected hs t) (h.v row hr t)) 0 1

  pub backward_rows_count_same : (selected d : ℕ) {S R : Work Value} → selected < m → d ≤ selected → AgreeWithin m selected columns m S R
      → backward_rows_count N E T selected columns d S ≡ backward_rows_count N E T selected columns d R
  unfolding backward_rows_count
  backward_rows_count_same selected zero hs hd h = refl
  backward_rows_count_same selected (suc d) hs hd h =
      let before = backward_rows_count_same selected d hs (omega arith) h in
      let row = backward_row_count_same selected (selected - suc d) (selected - d) hs (omega arith) (backward_rows_same N E T m columns hc selected d hs (omega arith) h) in
      λ t. before t + row t

  -- whatever stands in y
  pub backward_count_same : (start selected lo : ℕ) {S R : Work Value} → selected < m → AgreeWithin m lo columns m S R
      → backward_count N E T start selected columns S ≡ backward_count N E T start selected columns R
  unfolding backward_count
  backward_count_same start selected lo hs h = backward_rows_count_same selected (selected - start) hs (omega arith) (copy_row_same N E T m columns hc selected lo h)

-- ---- the triangle restored

module _ (N : NumberForm) (E T : N.Value) (n columns k : ℕ) (hc : columns ≤ n) (hk : k < columns) where
  open N use {Value}

  restored_from_count_same : (selected lo : ℕ) {S R : Work Value} → suc k ≤ selected → selected < n → selected ≤ columns → AgreeWithin n lo columns n S R
      → restored_from_count N E T k selected columns S ≡ restored_from_count N E T k selected columns R
  unfolding restored_from_count
  restored_from_count_same selected lo hl hs hm h =
      let back = backward_count_same N E T n columns hc (suc k) selected lo hs h in
      let ahead = forward_count_same N E T n columns n hc k selected hs hm (put_selected_same N E T n columns k hc hk selected hs (backward_same N E T n columns hc (suc k) selected lo hs hl h)) in
      λ t. back t + ahead t

  pub restored_count_same : (last lo : ℕ) {S R : Work Value} → suc k ≤ last → last < n → last ≤ columns → AgreeWithin n lo columns n S R
      → restored_count N E T k last columns S ≡ restored_count N E T k last columns R
  unfolding restored_count
  restored_count_same last lo {S} {R} hl hn hm h =
      let s = trim N E (suc k) last S.v in
      let a : s ≤ last = trim_le N E (suc k) last S.v in
      let b : suc k ≤ s = trim_ge N E (suc k) last S.v hl in
      restored_from_count_same s lo b (omega arith) (omega arith) h
      ∙ ap (λ (t : ℕ). restored_from_count N E T k t columns R) (trim_same N E (suc k) last S.v R.v (λ j l. h.v j (omega arith)))

-- ---- the updates

module _ (N : NumberForm) (E T : N.Value) where
  open N use {Value}

  module _ (n : ℕ) (L U L' U' : Table Value) (hL : (i j : ℕ) → i < n → j < n → L i j ≡ L' i j) (hU : (i j : ℕ) → i ≤ j → j < n → U i j ≡ U' i j) where
    pub pushed_count_same : (row row' column column' : List Value) (d : Value) → ((j : ℕ) → j < n → entry N row j ≡ entry N row' j) → ((j : ℕ) → j < n → entry N column j ≡ entry N column' j)
        → pushed_count N E T n L U row column d ≡ pushed_count N E T n L' U' row' column' d
    unfolding pushed_count
    pushed_count_same row row' column column' d er ec =
        forward_count_same N E T (suc n) (suc n) (suc n) (omega arith) 0 n (omega arith) (omega arith) (bordered_same N E T n L U L' U' hL hU row row' column column' d er ec)

    pub column_replaced_count_same : (k : ℕ) (column column' : List Value) → k < n → ((j : ℕ) → j < n → entry N column j ≡ entry N column' j)
        → column_replaced_count N E T n L U k column ≡ column_replaced_count N E T n L' U' k column'
    unfolding column_replaced_count
    column_replaced_count_same k column column' hk ec =
        choose (ltb (suc k) n)
        (λ s. let l = ltb→lt (suc k) n s in
        restored_count_same N E T n n k (omega arith) hk (n - 1) n (omega arith) (omega arith) (omega arith) (column_placed_same N E T n L U L' U' hL hU k column column' hk ec))
        (λ _. refl)

    column_dropped_count_same : (k : ℕ) → k < n → column_dropped_count N E T (n - 1) L U k ≡ column_dropped_count N E T (n - 1) L' U' k
    unfolding column_dropped_count
    column_dropped_count_same k hk =
        let p = n - 1 in
        choose (ltb k p)
        (λ s. let l : k < p = ltb→lt k p s in
        restored_count_same N E T n p k (omega arith) l p p l (omega arith) (omega arith) (last_column_placed_same N E T n L U L' U' hL hU k l))
        (λ _. refl)

    pub removed_count_same : (r k : ℕ) → r < n → k < n → removed_count N E T (n - 1) L U r k ≡ removed_count N E T (n - 1) L' U' r k
    unfolding removed_count
    removed_count_same r k hr hk =
        let column = column_dropped_count_same k hk in
        let row = backward_count_same N E T n (n - 1) (omega arith) 0 (n - 1) 0 (omega arith) (column_moved_same N E T n L U L' U' hL hU r k hr hk) in
        λ t. column t + row t

    row_replaced_from_count_same : (r : ℕ) (row row' : List Value) (selected : ℕ) → r < n → selected < n → ((j : ℕ) → j < n → entry N row j ≡ entry N row' j)
        → row_replaced_from_count N E T n L U r row selected ≡ row_replaced_from_count N E T n L' U' r row' selected
    unfolding row_replaced_from_count
    row_replaced_from_count_same r row row' selected hr hs er =
        let back = backward_count_same N E T n n (omega arith) 0 selected 0 hs (column_taken_same N E T n L U L' U' hL hU r hr) in
        let ahead = forward_count_same N E T n n n (omega arith) 0 selected hs (omega arith) (unit_row_set_same N E T n L U L' U' hL hU r row row' selected hr hs er) in
        λ t. back t + ahead t

    pub row_replaced_count_same : (r : ℕ) (row row' : List Value) → r < n → ((j : ℕ) → j < n → entry N row j ≡ entry N row' j)
        → row_replaced_count N E T n L U r row ≡ row_replaced_count N E T n L' U' r row'
    unfolding row_replaced_count pushed_count forward_count forward_rows_count
    row_replaced_count_same r row row' hr er =
        let s = trim N E 0 (n - 1) (λ i. L i r) in
        let hs : s ≤ n - 1 = trim_le N E 0 (n - 1) (λ i. L i r) in
        choose (eqb n 1) (λ _. refl)
        (λ _. row_replaced_from_count_same r row row' s hr (omega arith) er
        ∙ ap (row_replaced_from_count N E T n L' U' r row') (trim_same N E 0 (n - 1) (λ i. L i r) (λ i. L' i r) (λ j l. hL j r (omega arith) hr)))

    -- ---- a call

    abbrev S : State Value
    S = record { n = n; L = L; U = U }

    abbrev R : State Value
    R = record { n = n; L = L'; U = U' }

    accepted_count_same : (c : Call Value) → index_tests N S c ≡ none → accepted_count N E T S c ≡ accepted_count N E T R c
    unfolding accepted_count index_tests
    accepted_count_same (push row column d) e = pushed_count_same row row column column d (λ j a. refl) (λ j a. refl)
    accepted_count_same (replace_row r row) e = row_replaced_count_same r row row (index_within n r _ (or_else_none _ _ e).0) (λ j a. refl)
    accepted_count_same (replace_column k column) e = column_replaced_count_same k column column (index_within n k _ (or_else_none _ _ e).0) (λ j a. refl)
    accepted_count_same (remove r k) e = let o = or_else_none _ _ e in removed_count_same r k (index_within n r _ o.0) (index_within n k _ o.1)
    accepted_count_same (solve b) e = refl
    accepted_count_same (solve_transpose b) e = refl

    count_same_at : (c : Call Value) → count N E T S c ≡ count N E T R c
    unfolding count count_under
    count_same_at c =
        subst (λ (o : Option Answer). count_under N E T (refusal N S c) S c ≡ count_under N E T o R c) (refusal_same N E T n L U L' U' hL hU c) (go (refusal N S c) refl)
      where
        go : (o : Option Answer) → refusal N S c ≡ o → count_under N E T o S c ≡ count_under N E T o R c
        go none e = accepted_count_same c (refusal_passed N S c e).0
        go (some a) e = refl

  pub count_same : (S R : State Value) (c : Call Value) → Agree S R → count N E T S c ≡ count N E T R c
  count_same S R c h =
      subst (λ (n : ℕ). count N E T S c ≡ count N E T (record { n = n; L = R.L; U = R.U }) c) h.n
      (count_same_at S.n S.L S.U R.L R.U h.L h.U c)
