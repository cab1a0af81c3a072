pub mod Refusal
pub mod Text
pub mod Answers
