-- Writing is about the loops that write, one more turn each; Parts about parts of slices; Vectors about what is written; RowParts about parts of a row of U.
pub mod Writing
pub mod Parts
pub mod Vectors
pub mod RowParts
