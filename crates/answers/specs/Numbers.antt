-- What a C host finds in the out-parameters for an index and for what moved.
use Rattle.std.proofs.Math.Option.{Option, none, some}
use Rattle.std.specs.Prelude.{ℕ, ◌-◌, ◌^◌, unwrap_or}
use Rattle.machine.specs.Calls.{Answer, done, moved, refused, refused_at}
use Rattle.refusals.specs.Refusal.{index_of}

-- the index, which is written with 9, 10 and 23 alone
abbrev pub index_after : Answer → ℕ → ℕ
index_after a old = unwrap_or (index_of a) old

-- SIZE_MAX where nothing moved
abbrev pub moved_number : Option ℕ → ℕ
moved_number none = 2 ^ 64 - 1
moved_number (some i) = i

-- the moved row and the moved column, which are written where nothing was refused
abbrev pub moved_row_after : Answer → ℕ → ℕ
moved_row_after done old = old
moved_row_after (moved r k) old = moved_number r
moved_row_after (refused number) old = old
moved_row_after (refused_at number i) old = old

abbrev pub moved_column_after : Answer → ℕ → ℕ
moved_column_after done old = old
moved_column_after (moved r k) old = moved_number k
moved_column_after (refused number) old = old
moved_column_after (refused_at number i) old = old
