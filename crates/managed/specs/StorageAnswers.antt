-- What adoption and `ready` answer, which read storage and change nothing. Below stand computed lines for which storage is ready.
use Rattle.std.specs.Prelude.{◌≡◌, refl, Bool, true, false, List, [], ◌∷◌, ℕ, length, Float}
use Rattle.std.proofs.Math.Option.{Option, none, some}
use Rattle.std.specs.Float.{nan, inf, binary64}
use Rattle.std.specs.Float.Ieee.{neg, eq, of_bits}
use Rattle.numbers.specs.NumberForm.{NumberForm, nearest, ieee, whole}
use Rattle.machine.specs.Solves.{diagonals}
use Rattle.machine.specs.Calls.{Answer, refused}
use Rattle.machine.specs.Readiness.{all_below, is_ready}
use Rattle.storage.specs.Places.{u_index, overflows}
use Rattle.storage.specs.Views.{state_at}
use Rattle.managed.specs.Instance.{StateValue, state_value}
use Rattle.managed.specs.Refusals.{dimension_test, size_tests, storage_tests}

-- ---- adoption

-- the state that is handed back, or the refusal
pub data AdoptionAnswer : Type 0 where
  adopted : StateValue → AdoptionAnswer
  not_adopted : Answer → AdoptionAnswer

-- Adopting a dimension, a capacity and storage, under their refusal; the counter is 0 at adoption
abbrev pub adopted_under : Option Answer → ℕ → ℕ → AdoptionAnswer
adopted_under none n c = adopted (state_value n c 0)
adopted_under (some a) n c = not_adopted a

-- ---- readiness

-- yes or no, or the refusal
pub data ReadyAnswer : Type 0 where
  answered : Bool → ReadyAnswer
  not_answered : Answer → ReadyAnswer

-- the refusal of the storage, or whether the factors in it are ready
abbrev pub ready_under : Option Answer → Bool → ReadyAnswer
ready_under none ready = answered ready
ready_under (some a) ready = not_answered a

-- Ready: the storage tests, then yes exactly if no active diagonal of U would give 9 or 10 and every active entry of L and U is finite
abbrev pub ready_answer : (N : NumberForm) → (n c : ℕ) → (l u : List N.Value) → ReadyAnswer
ready_answer N n c l u = ready_under (storage_tests n c (length l) (length u)) (is_ready N (state_at N c n l u))

-- ---- which storage is ready, computed

-- Dimension 2 at capacity 3: L's rows (1, x) and (3, 1), U's rows (2, y) and (z). The last three of L are solve work, and o stands at every place that is not active.
answer_for : (x y z o : Float) → ReadyAnswer
answer_for x y z o =
    ready_answer
    (ieee binary64)
    2
    3
    (whole 1 ∷ x ∷ o ∷ whole 3 ∷ whole 1 ∷ o ∷ o ∷ o ∷ o ∷ o ∷ o ∷ o ∷ [])
    (whole 2 ∷ y ∷ o ∷ z ∷ o ∷ o ∷ [])

pub record ReadyStorage : Type 0 where
  sound : answer_for (whole 0) (whole 6) (whole 5) (whole 1) ≡ answered true
  -- the same active entries beside infinities and NaNs
  infinities_unused : answer_for (whole 0) (whole 6) (whole 5) (inf false) ≡ answered true
  nans_unused : answer_for (whole 0) (whole 6) (whole 5) nan ≡ answered true
  -- an infinity in L alone, a NaN above U's diagonal alone, and the diagonal
  infinity_in_L : answer_for (inf false) (whole 6) (whole 5) (whole 1) ≡ answered false
  nan_above : answer_for (whole 0) nan (whole 5) (whole 1) ≡ answered false
  zero_diagonal : answer_for (whole 0) (whole 6) (neg (whole 0)) (whole 1) ≡ answered false
  nan_diagonal : answer_for (whole 0) (whole 6) nan (whole 1) ≡ answered false
  -- the storage is tested first, whatever it holds
  short_L : ready_answer (ieee binary64) 1 1 (nan ∷ []) (nan ∷ []) ≡ not_answered (refused 3)
  short_U : ready_answer (ieee binary64) 1 1 (nan ∷ nan ∷ []) [] ≡ not_answered (refused 13)

pub ready_storage : ReadyStorage
unfolding answer_for dimension_test size_tests overflows u_index is_ready all_below diagonals nearest neg eq of_bits
ready_storage = record {
  sound = refl;
  infinities_unused = refl;
  nans_unused = refl;
  infinity_in_L = refl;
  nan_above = refl;
  zero_diagonal = refl;
  nan_diagonal = refl;
  short_L = refl;
  short_U = refl;
}
