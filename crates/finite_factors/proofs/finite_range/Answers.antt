-- `finite_range`: the fours, then the others.
use mathlib.Core.Path.{sym, ap, ◌∙◌}
use mathlib.Core.Bool.{◌&&◌}
use Prim.Native.Nat.{◌-◌, ◌%◌}
use native.Mathlib.Omega.{arith}
use lib.Ieee.{binary64}
use lib.ListN.{length}
use Rattle.std.proofs.lemmas.List.{take_rest}
use Rattle.numbers.specs.NumberForm.{NumberForm, ieee}
use Rattle.finite_factors.proofs.Rows.{finite_list, finite_parts}
use Rattle.finite_factors.proofs.finite_range.Goals as goal

abbrev N : NumberForm
N = ieee binary64

pub returns : goal.returns
returns c =
    let xs = c.args.values.now in
    let fours = length xs - length xs % 4 in
    let others = c.finite_each.ensures ∙ ap (finite_list N) (take_rest xs fours) in
    (λ t. c.finite_fours.ensures t && others t) ∙ sym (finite_parts N fours xs (omega arith))
