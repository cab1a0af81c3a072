pub mod Written
pub mod Sums
