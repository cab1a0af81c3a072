-- One more turn of a loop that puts words: a value's, a zero, a run's, or a row's.
use mathlib.Core.Path.{◌≡◌, refl, sym, ap, ◌∙◌, subst}
use mathlib.Core.List.{List, [], ◌∷◌, ◌++◌}
use Prim.Native.Nat.{ℕ, zero, suc, ◌+◌, ◌*◌, ◌≤◌, ◌<◌}
use native.Mathlib.Nat.{add-zero, add_assoc}
use native.Mathlib.Numerals.{add-one}
use native.Mathlib.Omega.{arith}
use mathlib.Core.List.{map}
use lib.ListN.{length, get_or, take, drop, replicate}
use lib.Seq.{take-suc, take-add, take-length}
use Rattle.std.proofs.lemmas.List.{map-append, replicate-append-replicate, length-map, length-take-le, length-replicate}
use Rattle.machine.specs.Tables.{Vector, tabulate}
use Rattle.card_format.specs.Writing.{rows}
use Rattle.card_format.specs.WordsPut.{WordPut, place, WordsPut, WordsFilled, partial_sum}
use Rattle.card_format.proofs.Put.{none_put, put_more, filled_then}

-- the words of the first k values put from a word of a block on, and the running sum with them
abbrev pub ValuesAdded : {A : Type 0} (f : A → ℕ) (block word : ℕ) (values : List A) (k : ℕ) (old new : List ℕ) (sum : ℕ) → Type 0
ValuesAdded f block word values k old new sum =
    WordsPut (63 * block + word) (map f (take k values)) old new × (sum ≡ partial_sum new block (word + k))

pub none_added : {A : Type 0} (f : A → ℕ) (block word : ℕ) (values : List A) (old : List ℕ) {sum : ℕ} → sum ≡ partial_sum old block word
    → ValuesAdded f block word values 0 old old sum
none_added f block word values old e = (none_put (63 * block + word) 0 old, rw add-zero e)

-- one more value, by `add_word`
pub value_added : {A : Type 0} (f : A → ℕ) (d : A) (block word k : ℕ) (values : List A) {sum more : ℕ} {old mid new : List ℕ} → k < length values
    → ValuesAdded f block word values k old mid sum → WordPut (place (63 * block + (word + k))) (f (get_or values k d)) mid new
    → more ≡ partial_sum new block (word + k + 1) → ValuesAdded f block word values (k + 1) old new more
value_added f d block word k values {sum} {more} {old} {mid} {new} h before one e =
    let put = map f (take k values) in
    let w = f (get_or values k d) in
    let long : length put ≡ k = length-map (take k values) f ∙ length-take-le k values (omega arith) in
    let at : 63 * block + (word + k) ≡ 63 * block + word + length put = omega (arith, long) in
    let words : put ++ w ∷ [] ≡ map f (take (k + 1) values) =
    sym (rw add-one (ap (map f) (take-suc values k d h) ∙ map-append f (take k values) (get_or values k d ∷ []))) in
    (subst (λ (ws : List ℕ). WordsPut (63 * block + word) ws old new) words (put_more before.0 (rw at at one)), rw (← add_assoc) e)

-- all of them
pub all_added : {A : Type 0} (f : A → ℕ) (block word : ℕ) (values : List A) {k sum : ℕ} {old new : List ℕ} → k ≡ length values
    → ValuesAdded f block word values k old new sum → WordsPut (63 * block + word) (map f values) old new × (sum ≡ partial_sum new block (word + length values))
all_added f block word values {k} {sum} {old} {new} e added =
    let all : ValuesAdded f block word values (length values) old new sum = rw e at added in
    (rw take-length at all.0, all.1)

-- zeros so far and one more
pub zero_put : (first k : ℕ) {old mid new : List ℕ} → WordsPut first (replicate k 0) old mid → WordPut (place (first + k)) 0 mid new → WordsPut first (replicate (k + 1) 0) old new
zero_put first k {old} {mid} {new} before one =
    subst (λ (ws : List ℕ). WordsPut first ws old new) (replicate-append-replicate k 1 0)
    (put_more before (subst (λ (x : ℕ). WordPut (place (first + x)) 0 mid new) (sym (length-replicate {A = ℕ} k 0)) one))

-- the values so far and a run of those behind them
pub run_put : {A : Type 0} (f : A → ℕ) (first k run : ℕ) (values : List A) {old mid new : List ℕ} → k ≤ length values → WordsFilled first (map f (take k values)) old mid
    → WordsFilled (first + k) (map f (take run (drop k values))) mid new → WordsFilled first (map f (take (k + run) values)) old new
run_put f first k run values {old} {mid} {new} h before ran =
    let long : length (map f (take k values)) ≡ k = length-map (take k values) f ∙ length-take-le k values h in
    let more : map f (take k values) ++ map f (take run (drop k values)) ≡ map f (take (k + run) values) =
    sym (ap (map f) (take-add k run values) ∙ map-append f (take k values) (take run (drop k values))) in
    subst (λ (ws : List ℕ). WordsFilled first ws old new) more
    (filled_then before (subst (λ (x : ℕ). WordsFilled (first + x) (map f (take run (drop k values))) mid new) (sym long) ran))

-- rows so far and one more
pub row_put : (first start i : ℕ) (f : ℕ → List ℕ) (ws : List ℕ) {old mid new : List ℕ} → start ≡ first + length (rows i f) → ws ≡ f i → WordsFilled first (rows i f) old mid
    → WordsFilled start ws mid new → WordsFilled first (rows (i + 1) f) old new
unfolding rows
row_put first start i f ws {old} {mid} {new} is_start is_row before row =
    rw add-one (filled_then before (rw is_start at (rw is_row at row)))

-- the words of a row of a table
pub map_tabulate : {A B : Type 0} (f : A → B) (k : ℕ) (g : Vector A) → map f (tabulate k g) ≡ tabulate k (λ j. f (g j))
map_tabulate f zero g = refl
map_tabulate f (suc k) g = λ t. f (g zero) ∷ map_tabulate f k (λ j. g (suc j)) t
