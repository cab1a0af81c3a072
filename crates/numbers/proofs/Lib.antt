pub mod FromBits
pub mod Branches
pub mod Bound
