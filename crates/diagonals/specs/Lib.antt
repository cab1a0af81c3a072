pub mod Diagonal
