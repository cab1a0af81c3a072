pub mod ColumnReplaced
