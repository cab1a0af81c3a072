-- The L product of a vector, plain and transposed.
use Rattle.std.specs.Prelude.{List, ℕ, zero, suc, get_or}
use Rattle.numbers.specs.NumberForm.{NumberForm}
use Rattle.machine.specs.Tables.{Vector, Table}

module _ (N : NumberForm) where
  open N use {Value, zero as 𝟎, add, mul, absent}

  -- a list as a vector
  abbrev pub entry : List Value → Vector Value
  entry xs i = get_or xs i absent

  -- a vector of the machine's own before it is written
  abbrev pub unset : Vector Value
  unset i = absent

  -- t(0) + .. + t(k − 1): from +0, upward
  unfoldable pub sum : ℕ → Vector Value → Value
  sum zero t = 𝟎
  sum (suc k) t = add (sum k t) (t k)

  -- Entry i starts at +0 and adds L(i,j) × v(j), j upward; transposed, L(j,i).
  unfoldable pub product : ℕ → Table Value → Vector Value → Vector Value
  product n L v i = sum n (λ j. mul (L i j) (v j))

  unfoldable pub product_transposed : ℕ → Table Value → Vector Value → Vector Value
  product_transposed n L v i = sum n (λ j. mul (L j i) (v j))
