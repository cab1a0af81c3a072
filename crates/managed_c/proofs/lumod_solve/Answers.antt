-- `lumod_solve`: the outcome of the solve, its number, and the index that it names.
use mathlib.Core.Path.{refl}
use lib.Ieee.{binary64}
use Rattle.answers.proofs.Returns.{answer_number, returned_solved}
use Rattle.managed_c.proofs.lumod_solve.Goals as goal

pub returns : goal.returns
returns c = returned_solved binary64 c.solve_in_place-result.ensures (answer_number _ c.result_number.ensures) c.named_index.ensures refl
