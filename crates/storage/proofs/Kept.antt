-- Laws of `Kept`.
use mathlib.Core.Path.{refl, ◌∙◌}
use mathlib.Core.List.{List}
use Prim.Native.Nat.{ℕ}
use lib.ListN.{set, length-set}
use lib.Seq.{get_or-set_other}
use Rattle.numbers.specs.NumberForm.{NumberForm}
use Rattle.storage.specs.Views.{Kept}

module _ (N : NumberForm) {Free : ℕ → Type 0} where
  open N use {Value, absent}

  pub kept_all : {l : List Value} → Kept N Free l l
  kept_all = record { long = refl; same = λ q h. refl }

  pub kept_set : (l : List Value) (q : ℕ) (x : Value) → Free q → Kept N Free l (set l q x)
  kept_set l q x free = record { long = length-set l q x; same = λ p h. get_or-set_other l q p x absent (λ e. h (rw e free)) }

  pub kept_then : {a b c : List Value} → Kept N Free a b → Kept N Free b c → Kept N Free a c
  kept_then h g = record { long = g.long ∙ h.long; same = λ q f. g.same q f ∙ h.same q f }

  -- more may be free
  pub kept_more : {More : ℕ → Type 0} {a b : List Value} → ((q : ℕ) → Free q → More q) → Kept N Free a b → Kept N More a b
  kept_more f h = record { long = h.long; same = λ q n. h.same q (λ free. n (f q free)) }
