-- `lumod_replace_column`: the outcome of `LuMod::replace_column`, its number, and the place that it names.
use mathlib.Core.Path.{refl}
use lib.Ieee.{binary64}
use Rattle.answers.proofs.Returns.{answer_number, returned_keeping}
use Rattle.updates_c.proofs.lumod_replace_column.Goals as goal

pub returns : goal.returns
returns c = returned_keeping binary64 c.replace_column-column_replaced.ensures (answer_number _ c.result_number.ensures) c.named_index.ensures refl
