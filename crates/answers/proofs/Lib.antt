pub mod Refusals
pub mod Returns
