-- `transform_slices`: one pair a turn.
use Prim.Native.Nat.{ℕ}
use native.Mathlib.Omega.{arith}
use lib.Ieee.{binary64}
use Rattle.numbers.specs.NumberForm.{NumberForm, ieee}
use Rattle.ranges.proofs.Writing.{apart}
use Rattle.transforms.proofs.Pairs.{first_stored, second_stored}
use Rattle.transforms.proofs.transform_slices.Goals as goal

abbrev N : NumberForm
N = ieee binary64

pub loop-k-preserved : goal.loop-k-preserved
loop-k-preserved c =
    let h = c.loop-k.invariant in
    let k = c.loop-k.k in
    let places : ℕ → ℕ = λ j. j in (
      first_stored N _ _ places places k _ _ (apart N k) (apart N k) h.0 h.1 (omega arith) c.apply_pair.ensures.0,
      second_stored N _ _ places places k _ _ (apart N k) (apart N k) h.0 h.1 (omega arith) c.apply_pair.ensures.1,
    )
