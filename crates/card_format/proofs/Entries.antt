-- Laws of the list of entries: where each entry stands, that every place has an entry, and that nothing but active entries is read.
use mathlib.Core.Path.{◌≡◌, refl, sym, ap, ◌∙◌}
use mathlib.Core.List.{List, ◌++◌}
use mathlib.Core.Logic.{⊎_elim}
use Prim.Native.Nat.{ℕ, zero, suc, ◌+◌, ◌-◌, ◌*◌, ◌≤◌, ◌<◌}
use native.Mathlib.Nat.{suc-mul, zero-mul, eq-or-lt_of_le, le_of_suc-le-suc}
use native.Mathlib.Decide.{dec_lt}
use native.Mathlib.Omega.{arith}
use lib.ListN.{length, get_or, length-append, get_or-append}
use lib.Seq.{get_or-append-add}
use Rattle.machine.specs.Tables.{Table, State, tabulate}
use Rattle.machine.specs.Agreement.{Agree}
use Rattle.machine.proofs.Choice.{tabulate_same, tabulate_length, tabulate_at}
use Rattle.storage.specs.Places.{u_length, l_index, u_index}
use Rattle.storage.proofs.Places.{row_start, row_suc, rows_end, u_index_is, l_index_within}
use Rattle.card_format.specs.Writing.{rows, rows_of_l, rows_of_u, entries, entry_count}

-- where rows of given widths start, one after the other
pub record RowPlaces (n : ℕ) (start width : ℕ → ℕ) : Type 0 where
  first : start 0 ≡ 0
  next : (i : ℕ) → i < n → start (suc i) ≡ start i + width i

pub places_l : (n : ℕ) → RowPlaces n (λ i. i * n) (λ i. n)
places_l n = record { first = zero-mul n; next = λ i h. suc-mul i n }

pub places_u : (n : ℕ) → RowPlaces n (row_start n) (λ i. n - i)
unfolding row_start
places_u n = record { first = omega arith; next = row_suc n }

start_rising : {n : ℕ} {start width : ℕ → ℕ} → RowPlaces n start width → (k i : ℕ) → k ≤ n → i < k → start i + width i ≤ start k
start_rising p zero i h hi = absurd (omega arith)
start_rising p (suc k) i h hi =
    ⊎_elim
    (λ (e : i ≡ k). rw e (omega (arith, p.next k h)))
    (λ (l : i < k). omega (arith, p.next k h, start_rising p k i (omega arith) l))
    (eq-or-lt_of_le (le_of_suc-le-suc hi))

-- a row of U has its room among all of them
pub row_room : (n i : ℕ) → i < n → row_start n i + (n - i) ≤ u_length n
row_room n i h = omega (arith, rows_end n, start_rising (places_u n) n i (omega arith) h)

module _ {A : Type 0} where
  pub append_at : (k : ℕ) (xs ys : List A) (j : ℕ) (d : A) → length xs ≡ k → get_or (xs ++ ys) (k + j) d ≡ get_or ys j d
  append_at k xs ys j d e = rw (← e) (get_or-append-add xs ys j d)

  -- what holds in both parts
  append_every : (Q : ℕ → A → Type 0) (d : A) (xs ys : List A) (a b : ℕ) → length xs ≡ a
      → ((q : ℕ) → q < a → Q q (get_or xs q d)) → ((j : ℕ) → j < b → Q (a + j) (get_or ys j d))
      → (q : ℕ) → q < a + b → Q q (get_or (xs ++ ys) q d)
  append_every Q d xs ys a b long hx hy q l = go (dec_lt q a)
    where
      go : Dec (q < a) → Q q (get_or (xs ++ ys) q d)
      go (yes h) = rw (get_or-append xs ys d q (omega arith)) (hx q h)
      go (no h) =
          let e : a + (q - a) ≡ q = omega arith in
          rw (← e) (rw (append_at a xs ys (q - a) d long) (hy (q - a) (omega arith)))

  -- ---- rows one after the other

  rows_same : (k : ℕ) (f g : ℕ → List A) → ((i : ℕ) → i < k → f i ≡ g i) → rows k f ≡ rows k g
  unfolding rows
  rows_same zero f g h = refl
  rows_same (suc k) f g h = λ t. rows_same k f g (λ i l. h i (omega arith)) t ++ h k (omega arith) t

  abbrev pub tables : (ℕ → ℕ) → Table A → ℕ → List A
  tables width g k = rows k (λ i. tabulate (width i) (g i))

  tables_same : (width : ℕ → ℕ) (g g' : Table A) (k : ℕ) → ((i j : ℕ) → i < k → j < width i → g i j ≡ g' i j) → tables width g k ≡ tables width g' k
  tables_same width g g' k h = rows_same k _ _ (λ i l. tabulate_same (width i) (g i) (g' i) (λ j r. h i j l r))

  module _ {n : ℕ} {start width : ℕ → ℕ} (p : RowPlaces n start width) where
    pub tables_length : (g : Table A) (k : ℕ) → k ≤ n → length (tables width g k) ≡ start k
    unfolding rows
    tables_length g zero h = sym p.first
    tables_length g (suc k) h = simp (length-append, tabulate_length, tables_length g k (omega arith)) (sym (p.next k h))

    -- an entry of a row follows the rows before it
    tables_at : (g : Table A) (d : A) (k i j : ℕ) → k ≤ n → i < k → j < width i → get_or (tables width g k) (start i + j) d ≡ g i j
    unfolding rows
    tables_at g d zero i j h hi hj = absurd (omega arith)
    tables_at g d (suc k) i j h hi hj =
        let long : length (tables width g k) ≡ start k = tables_length g k (omega arith) in
        ⊎_elim
        (λ (e : i ≡ k).
        rw e
        (append_at (start k) (tables width g k) (tabulate (width k) (g k)) j d long ∙ tabulate_at (width k) (g k) d j (rw e at hj)))
        (λ (l : i < k).
        get_or-append (tables width g k) (tabulate (width k) (g k)) d (start i + j) (omega (arith, long, start_rising p k i (omega arith) l))
        ∙ tables_at g d k i j (omega arith) l hj)
        (eq-or-lt_of_le (le_of_suc-le-suc hi))

    -- what holds of each entry and its place holds at every place
    tables_every : (Q : ℕ → A → Type 0) (g : Table A) (d : A) (k : ℕ) → k ≤ n → ((i j : ℕ) → i < k → j < width i → Q (start i + j) (g i j)) → (q : ℕ) → q < start k
        → Q q (get_or (tables width g k) q d)
    unfolding rows
    tables_every Q g d zero h every q l = absurd (omega (arith, p.first))
    tables_every Q g d (suc k) h every q l =
        append_every Q d (tables width g k) (tabulate (width k) (g k)) (start k) (width k) (tables_length g k (omega arith))
        (tables_every Q g d k (omega arith) (λ i j hi hj. every i j (omega arith) hj))
        (λ j r. rw (tabulate_at (width k) (g k) d j r) (every k j (omega arith) r)) q (omega (arith, p.next k h))

  -- ---- the entries of a state

  pub rows_of_l_length : (n : ℕ) (L : Table A) → length (rows_of_l n L) ≡ n * n
  rows_of_l_length n L = tables_length (places_l n) L n (omega arith)

  pub rows_of_u_length : (n : ℕ) (U : Table A) → length (rows_of_u n U) ≡ u_length n
  rows_of_u_length n U = tables_length (places_u n) (λ i j. U i (i + j)) n (omega arith) ∙ rows_end n

  pub entries_length : (S : State A) → length (entries S) ≡ entry_count S.n
  unfolding entries
  entries_length S = length-append (rows_of_l S.n S.L) (rows_of_u S.n S.U) ∙ rw (rows_of_l_length, rows_of_u_length)

  module _ (S : State A) (d : A) (i j : ℕ) where
    pub entry_L : i < S.n → j < S.n → get_or (entries S) (l_index S.n i j) d ≡ S.L i j
    unfolding entries
    entry_L hi hj =
        get_or-append (rows_of_l S.n S.L) (rows_of_u S.n S.U) d (l_index S.n i j) (rw rows_of_l_length (l_index_within S.n i j hi hj))
        ∙ tables_at (places_l S.n) S.L d S.n i j (omega arith) hi hj

    pub entry_U : i ≤ j → j < S.n → get_or (entries S) (S.n * S.n + u_index S.n i j) d ≡ S.U i j
    unfolding entries
    entry_U hi hj =
        let e : i + (j - i) ≡ j = omega arith in
        append_at (S.n * S.n) (rows_of_l S.n S.L) (rows_of_u S.n S.U) (u_index S.n i j) d (rows_of_l_length S.n S.L)
        ∙ rw (u_index_is S.n i j hi hj)
        (tables_at (places_u S.n) (λ i j. S.U i (i + j)) d S.n i (j - i) (omega arith) (omega arith) (omega arith) ∙ ap (S.U i) e)

  pub entries_same : (S R : State A) → Agree S R → entries S ≡ entries R
  unfolding entries
  entries_same S R h =
      (λ t.
      tables_same (λ i. S.n) S.L R.L S.n (λ i j a b. h.L i j a b) t
      ++ tables_same (λ i. S.n - i) (λ i j. S.U i (i + j)) (λ i j. R.U i (i + j)) S.n (λ i j a b. h.U i (i + j) (omega arith) (omega arith)) t)
      ∙ ap (λ (n : ℕ). rows_of_l n R.L ++ rows_of_u n R.U) h.n

  -- what holds of each active entry and its place holds at every place
  pub entries_every : (S : State A) (Q : ℕ → A → Type 0) (d : A) → ((i j : ℕ) → i < S.n → j < S.n → Q (l_index S.n i j) (S.L i j))
      → ((i j : ℕ) → i ≤ j → j < S.n → Q (S.n * S.n + u_index S.n i j) (S.U i j)) → (q : ℕ) → q < entry_count S.n → Q q (get_or (entries S) q d)
  unfolding entries
  entries_every S Q d hL hU =
      let n = S.n in
      append_every Q d (rows_of_l n S.L) (rows_of_u n S.U) (n * n) (u_length n) (rows_of_l_length n S.L)
      (tables_every (places_l n) Q S.L d n (omega arith) hL)
      (λ q l.
      tables_every (places_u n) (λ q. Q (n * n + q)) (λ i j. S.U i (i + j)) d n (omega arith)
      (λ i j hi hj.
      let e : u_index n i (i + j) ≡ row_start n i + j = omega (arith, u_index_is n i (i + j) (omega arith) (omega arith)) in
      rw (← e) (hU i (i + j) (omega arith) (omega arith))) q (omega (arith, rows_end n)))
