-- When a step of Forward or Backward fits what it is lent.
use Rattle.std.specs.Prelude.{List, ℕ, ◌≤◌, ◌<◌, length}
use Rattle.std.specs.Float.{Float}
use Rattle.factors.specs.declared.Factors.{Factors}

-- `last` is a row of the factors. They have at least `columns` columns, of which the first `columns` include all before the diagonal of row `last`, and y has
-- an entry for each of these.
abbrev pub StepFits : (last columns : ℕ) → Factors → List Float → Type 0
StepFits last columns a y = (last < a.n) × (last ≤ columns) × (columns ≤ a.n) × (columns ≤ length y)
