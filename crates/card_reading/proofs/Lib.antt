-- Tests is about the tests 16 and 17, Runs about the words that are read one after the other, and Rows about the entries that are stored.
pub mod Tests
pub mod Runs
pub mod Rows
