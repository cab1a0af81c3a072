-- `back_substitute`: one row a turn, downward.
use Prim.Native.Nat.{◌-◌, ◌≤◌}
use lib.Ieee.{binary64}
use Rattle.numbers.specs.NumberForm.{NumberForm, ieee}
use Rattle.machine.specs.Products.{entry}
use Rattle.machine.specs.Solves.{back_substitution}
use Rattle.ranges.specs.Written.{Written}
use Rattle.matrices.specs.Tables.{table_u}
use Rattle.substitutions.proofs.back_substitute.Given as goal

abbrev N : NumberForm
N = ieee binary64

abbrev pub invariant-loop-row : goal.invariant-loop-row
invariant-loop-row l = (l.row ≤ l.u.n) × Written N (λ k. k) l.u.n (back_substitution N l.u.n (table_u l.u) (entry N l.initial.b) (l.u.n - l.row)) l.initial.b l.b
