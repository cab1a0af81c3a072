pub mod Refusals
pub mod Update
