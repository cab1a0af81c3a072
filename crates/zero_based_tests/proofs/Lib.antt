-- Tests has what is known where a test refuses nothing.
pub mod Tests
