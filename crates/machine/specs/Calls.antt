-- The calls of the machine with their data, what they report, and the order of refusals.
use Rattle.std.specs.Prelude.{Bool, true, false, cond, List, [], ℕ}
use Rattle.std.proofs.Math.Option.{Option, none, some}
use Rattle.machine.specs.Tables.{State}

-- The data of a call are its indices, row, column, diagonal or right-hand side.
pub data Call (A : Type 0) : Type 0 where
  push : List A → List A → A → Call A
  replace_row : ℕ → List A → Call A
  replace_column : ℕ → List A → Call A
  remove : ℕ → ℕ → Call A
  solve : List A → Call A
  solve_transpose : List A → Call A

-- A call's answer is all that it reports: 0 (`done`) or the refusal's number, with its index, and for remove the moved row and the moved column.
pub data Answer : Type 0 where
  done : Answer
  moved : Option ℕ → Option ℕ → Answer
  refused : ℕ → Answer
  refused_at : ℕ → ℕ → Answer

-- Success is 0, and a refusal has its number.
abbrev pub number_of : Answer → ℕ
number_of done = 0
number_of (moved r k) = 0
number_of (refused number) = number
number_of (refused_at number i) = number

-- what a call leaves: its answer, the right-hand side as it leaves it ([] for an update), and the state
pub record Result (A : Type 0) : Type 0 where
  pub answer : Answer
  pub solved : List A
  pub after : State A

-- Each refusal is given when its condition is the first to hold.
infixr 25 ◌or_else◌
abbrev pub ◌or_else◌ : Option Answer → Option Answer → Option Answer
none or_else b = b
some a or_else b = some a

-- whether nothing was refused
abbrev pub is_none : {A : Type 0} → Option A → Bool
is_none none = true
is_none (some a) = false

-- the number of what was or was not refused
abbrev pub refusal_number : Option Answer → ℕ
refusal_number none = 0
refusal_number (some a) = number_of a

abbrev pub refuse_if : Bool → ℕ → Option Answer
refuse_if b number = cond b (some (refused number)) none

module _ {A : Type 0} where
  -- the right-hand side that a call lends
  abbrev pub given : Call A → List A
  given (push row column d) = []
  given (replace_row r row) = []
  given (replace_column k column) = []
  given (remove r k) = []
  given (solve b) = b
  given (solve_transpose b) = b

  abbrev pub is_push : Call A → Bool
  is_push (push row column d) = true
  is_push (replace_row r row) = false
  is_push (replace_column k column) = false
  is_push (remove r k) = false
  is_push (solve b) = false
  is_push (solve_transpose b) = false

  -- the calls that lend workspaces
  abbrev pub is_update : Call A → Bool
  is_update (push row column d) = true
  is_update (replace_row r row) = true
  is_update (replace_column k column) = true
  is_update (remove r k) = true
  is_update (solve b) = false
  is_update (solve_transpose b) = false
