pub mod Refusal
pub mod Text
