-- `lumod_replace_row`: the outcome of `LuMod::replace_row`, its number, and the place that it names.
-- `using(returned_keeping)` in the attribute does not close this goal, nor that of `lumod_replace_column`.
use mathlib.Core.Path.{refl}
use lib.Ieee.{binary64}
use Rattle.answers.proofs.Returns.{answer_number, returned_keeping}
use Rattle.updates_c.proofs.lumod_replace_row.Goals as goal

pub returns : goal.returns
returns c = returned_keeping binary64 c.replace_row-row_replaced.ensures (answer_number _ c.result_number.ensures) c.named_index.ensures refl
