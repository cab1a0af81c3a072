-- The rows of document 01's bench table hold, those of every file together.
use Rattle.numbers.specs.PairStep.{pair_table}
use Rattle.machine.specs.BenchTable.{call_table, trap_table}
use Rattle.machine.specs.Counts.{count_table}
use Rattle.machine.specs.Counter.{counter_table}
use Rattle.machine.specs.Machine as machine
use Rattle.machine.specs.Solves.{first_diagonal}
use Rattle.storage.specs.Places.{place_table}
use Rattle.storage.specs.Lengths.{lengths_table}
use Rattle.managed.specs.Refusals.{refusal_order}
use Rattle.managed.specs.BenchTable.{BenchTable}

pub bench_table : BenchTable
bench_table = record {
  places = place_table;
  lengths = lengths_table;
  pairs = pair_table;
  calls = call_table;
  traps = trap_table;
  counts = count_table;
  counter = counter_table;
  diagonals = first_diagonal;
  machine_refusals = machine.refusal_order;
  refusals = refusal_order;
}
