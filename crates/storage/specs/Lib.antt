pub mod Places
pub mod Lengths
pub mod Views
pub mod Updated
