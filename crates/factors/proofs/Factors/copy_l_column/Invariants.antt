-- `copy_l_column`: one entry a turn.
use Prim.Native.Nat.{◌≤◌}
use lib.Ieee.{binary64}
use Rattle.numbers.specs.NumberForm.{ieee}
use Rattle.storage.specs.Places.{l_index}
use Rattle.storage.specs.Views.{view_l}
use Rattle.factors.specs.PartsWritten.{LWritten}
use Rattle.factors.proofs.Factors.copy_l_column.Given as goal

abbrev pub invariant-loop-i : goal.invariant-loop-i
invariant-loop-i l =
    let f = l.initial.self in
    (l.i ≤ f.n) × LWritten (λ j. l_index f.stride j l.target) l.i (λ j. view_l (ieee binary64) f.stride f.l.now j l.source) f l.self
