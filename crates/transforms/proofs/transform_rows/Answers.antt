-- `transform_rows`: the slice is cut where the later row begins, and of each piece the part that is a row is lent.
use native.Mathlib.Omega.{arith}
use mathlib.Core.Path.{refl}
use lib.Ieee.{binary64}
use Rattle.numbers.specs.NumberForm.{NumberForm, ieee}
use Rattle.transforms.proofs.Pairs.{parts_transformed, first_in_front, second_in_front}
use Rattle.transforms.proofs.transform_rows.Goals as goal

abbrev N : NumberForm
N = ieee binary64

pub returns-then-x-y : goal.returns-then-x-y
returns-then-x-y c =
    let a = c.args in
    rw c.split_at_mut-before.ensures.value
    (first_in_front N (omega arith) (omega arith)
    (parts_transformed N _ _ a.x _ 0 a.count a.count _ _ (omega arith) refl (omega arith) (omega arith) c.transform_slices.ensures))

pub returns-else-x-y : goal.returns-else-x-y
returns-else-x-y c =
    let a = c.args in
    rw c.split_at_mut-before-else-x-y.ensures.value
    (second_in_front N (omega arith) (omega arith)
    (parts_transformed N _ _ 0 a.count a.y _ a.count _ _ refl (omega arith) (omega arith) (omega arith) c.transform_slices-else-x-y.ensures))
