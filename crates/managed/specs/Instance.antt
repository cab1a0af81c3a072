-- An instance is a state with the storage and workspaces lent to its calls; its view is what the plain machine has of it.
use Rattle.std.specs.Prelude.{List, [], ℕ, length}
use Rattle.numbers.specs.NumberForm.{NumberForm}
use Rattle.machine.specs.Tables.{State}
use Rattle.machine.specs.Counter.{CountedState}
use Rattle.storage.specs.Views.{state_at}
use Rattle.managed.specs.declared.LentLengths.{LentLengths}

-- the state that a call gets and hands back by value: the dimension, the capacity and the pair steps counted so far
pub record StateValue : Type 0 where
  pub n : ℕ
  pub capacity : ℕ
  pub counter : ℕ

abbrev pub state_value : ℕ → ℕ → ℕ → StateValue
state_value n c counter = record { n = n; capacity = c; counter = counter }

-- n is the dimension and c the capacity; a solve is lent no workspaces, and its y, z and w are []
pub record Instance (A : Type 0) : Type 0 where
  pub n : ℕ
  pub c : ℕ
  pub counter : ℕ
  pub l : List A
  pub u : List A
  pub y : List A
  pub z : List A
  pub w : List A

module _ {A : Type 0} where
  abbrev pub instance : StateValue → List A → List A → List A → List A → List A → Instance A
  instance v l u y z w = record { n = v.n; c = v.capacity; counter = v.counter; l = l; u = u; y = y; z = z; w = w }

  -- as lent to a solve
  abbrev pub lent_to_solve : StateValue → List A → List A → Instance A
  lent_to_solve v l u = instance v l u [] [] []

  abbrev pub lengths_of : Instance A → LentLengths
  lengths_of s = record { l = length s.l; u = length s.u; y = length s.y; z = length s.z; w = length s.w }

module _ (N : NumberForm) where
  open N use {Value}

  abbrev pub view : Instance Value → State Value
  view s = state_at N s.c s.n s.l s.u

  -- the same with the counter
  abbrev pub view_counted : Instance Value → CountedState Value
  view_counted s = record { state = view s; counter = s.counter }
