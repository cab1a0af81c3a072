pub mod RowsTransformed
