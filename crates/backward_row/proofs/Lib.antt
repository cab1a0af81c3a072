pub mod RowEliminated
