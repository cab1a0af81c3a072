-- The numbers that are computed from two slices.
use Rattle.std.specs.Prelude.{List, length}
use Rattle.numbers.specs.NumberForm.{NumberForm}
use Rattle.machine.specs.Tables.{Vector}
use Rattle.machine.specs.Products.{entry, sum}

module _ (N : NumberForm) where
  open N use {Value, add, mul}

  -- the products of the entries of a with those of b, added to +0 upward
  abbrev pub dot_product : (a b : List Value) → Value
  dot_product a b = sum N (length a) (λ k. mul (entry N a k) (entry N b k))

  -- each entry of the target plus the factor times the source's
  abbrev pub multiple_added : (target source : List Value) → Value → Vector Value
  multiple_added target source factor k = add (entry N target k) (mul (entry N source k) factor)
