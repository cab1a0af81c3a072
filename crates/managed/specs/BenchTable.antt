-- Document 01's bench table of the definitions, whole, as one finite check: its rows on storage, on pairs and on calls, with the computed lines beside them.
-- That they hold is `bench_table` of proofs/WholeTable.antt.
use Rattle.numbers.specs.PairStep.{PairTable}
use Rattle.machine.specs.BenchTable.{CallTable, TrapTable}
use Rattle.machine.specs.Counts.{CountTable}
use Rattle.machine.specs.Counter.{CounterTable}
use Rattle.machine.specs.Machine as machine
use Rattle.machine.specs.Solves.{FirstDiagonal}
use Rattle.storage.specs.Places.{PlaceTable}
use Rattle.storage.specs.Lengths.{LengthsTable}
use Rattle.managed.specs.Refusals.{RefusalOrder}

pub record BenchTable : Type 0 where
  pub places : PlaceTable
  pub lengths : LengthsTable
  pub pairs : PairTable
  pub calls : CallTable
  pub traps : TrapTable
  pub counts : CountTable
  pub counter : CounterTable
  pub diagonals : FirstDiagonal
  pub machine_refusals : machine.RefusalOrder
  pub refusals : RefusalOrder
