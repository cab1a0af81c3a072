-- L and U in lent storage as the machine's tables.
use Rattle.std.specs.Float.{Float, binary64}
use Rattle.numbers.specs.NumberForm.{ieee}
use Rattle.machine.specs.Tables.{Table, State}
use Rattle.storage.specs.Views.{view_l, view_u}
use Rattle.matrices.specs.declared.dense_l.DenseL.{DenseL}
use Rattle.matrices.specs.declared.packed_u.PackedU.{PackedU}

abbrev pub table_l : DenseL → Table Float
table_l l = view_l (ieee binary64) l.stride l.entries.now

abbrev pub table_u : PackedU → Table Float
table_u u = view_u (ieee binary64) u.stride u.entries.now

-- the state that both hold, of the dimension of L
abbrev pub state_held : DenseL → PackedU → State Float
state_held l u = record { n = l.n; L = table_l l; U = table_u u }
