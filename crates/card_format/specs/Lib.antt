pub mod Blocks
pub mod Writing
pub mod Reading
pub mod Answers
pub mod CardLaws
pub mod ByteSums
pub mod WordsPut
