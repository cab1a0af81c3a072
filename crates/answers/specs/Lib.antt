pub mod Numbers
pub mod Returned
