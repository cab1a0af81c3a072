-- Calls is about the machine's call for each update.
pub mod Calls
