pub mod Lengths
pub mod Kept
pub mod Places
pub mod Frames
