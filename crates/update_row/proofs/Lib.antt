pub mod RowReplaced
