-- What a substitution with U leaves when all n rows are done, where a buffer holds U and another the vector.
use Rattle.std.specs.Prelude.{List, ℕ}
use Rattle.numbers.specs.NumberForm.{NumberForm}
use Rattle.machine.specs.Tables.{Vector}
use Rattle.machine.specs.Products.{entry}
use Rattle.machine.specs.Solves.{back_substitution, forward_substitution}
use Rattle.storage.specs.Views.{view_u}

module _ (N : NumberForm) where
  open N use {Value}

  abbrev pub back_substituted : (stride n : ℕ) → (u b : List Value) → Vector Value
  back_substituted stride n u b = back_substitution N n (view_u N stride u) (entry N b) n

  abbrev pub forward_substituted : (stride n : ℕ) → (u b : List Value) → Vector Value
  forward_substituted stride n u b = forward_substitution N (view_u N stride u) (entry N b) n
