pub mod NumberForm
pub mod Tolerances
pub mod PairStep
