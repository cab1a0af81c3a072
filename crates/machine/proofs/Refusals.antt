-- Laws of the refusals' chain, and what holds where a test refuses nothing.
use mathlib.Core.Path.{◌≡◌, refl, sym, ap, ◌∙◌, subst}
use mathlib.Core.Bool.{Bool, true, false, not, ◌&&◌, cond}
use mathlib.Core.Option.{Option, none, some}
use Prim.Native.Nat.{ℕ, ◌<◌}
use native.Mathlib.Omega.{arith}
use lib.Dec.{T as So, leb, eqb, eqb→eq, nleb→lt}
use Rattle.numbers.specs.NumberForm.{NumberForm}
use Rattle.machine.specs.Tables.{State}
use Rattle.machine.specs.Calls.{Call, Answer, refused, ◌or_else◌, is_none, refuse_if}
use Rattle.machine.specs.LentData.{data_test}
use Rattle.machine.specs.Machine.{index_tests, refusal}
use Rattle.machine.proofs.Choice.{both_equal}

pub or_else_none : (a b : Option Answer) → (a or_else b) ≡ none → (a ≡ none) × (b ≡ none)
or_else_none none b e = (refl, e)
or_else_none (some x) b e = let z : ◌≡◌ {A = ℕ} 0 1 = cc in absurd (omega arith)

-- what stands last and does not hold adds nothing
pub or_else_last : (a b : Option Answer) → b ≡ none → (a or_else b) ≡ a
or_else_last none b e = e
or_else_last (some x) b e = refl

given_none : (b : Bool) (a : Answer) → cond b (some a) none ≡ none → So (not b)
given_none true a e = let z : ◌≡◌ {A = ℕ} 0 1 = cc in absurd (omega arith)
given_none false a e = tt

pub refuse_if_none : (b : Bool) (number : ℕ) → refuse_if b number ≡ none → So (not b)
refuse_if_none b number = given_none b (refused number)

pub refuse_if_false : (b : Bool) (number : ℕ) → (So b → ⊥) → refuse_if b number ≡ none
refuse_if_false true number h = absurd (h tt)
refuse_if_false false number h = refl

-- what is refused where it does not hold
refuse_unless_none : (b : Bool) (number : ℕ) → refuse_if (not b) number ≡ none → So b
refuse_unless_none true number e = tt
refuse_unless_none false number e = refuse_if_none true number e

-- two equations that are tested as one
pub equations_hold : (a b c d : ℕ) (number : ℕ) → refuse_if (not (eqb a b && eqb c d)) number ≡ none → (a ≡ b) × (c ≡ d)
equations_hold a b c d number h = both_equal a b c d (refuse_unless_none (eqb a b && eqb c d) number h)

pub equation_holds : (a b number : ℕ) → refuse_if (not (eqb a b)) number ≡ none → a ≡ b
equation_holds a b number h = eqb→eq a b (refuse_unless_none (eqb a b) number h)

-- an index out of bounds, which gives a
pub index_within : (n i : ℕ) (a : Answer) → cond (leb n i) (some a) none ≡ none → i < n
index_within n i a h = nleb→lt n i (given_none (leb n i) a h)

-- a call that the machine accepts passes its tests of indices and lengths, and lends data that pass
pub refusal_passed : (N : NumberForm) (S : State N.Value) (c : Call N.Value) → refusal N S c ≡ none → (index_tests N S c ≡ none) × (data_test N c ≡ none)
unfolding refusal
refusal_passed N S c e = or_else_none (index_tests N S c) (data_test N c) e

-- a call is not both refused and accepted
pub none_is_some : {A : Type 0} {x : Option A} {r : A} → x ≡ none → x ≡ some r → ⊥
none_is_some e f = subst So (ap is_none (sym e ∙ f)) tt

-- what passed was refused nothing
pub none_if_passed : {A : Type 0} (x : Option A) → is_none x ≡ true → x ≡ none
none_if_passed none e = refl
none_if_passed (some a) e = absurd (subst So (sym e) tt)
