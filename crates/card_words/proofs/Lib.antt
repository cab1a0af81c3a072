pub mod Bytes
pub mod Length
