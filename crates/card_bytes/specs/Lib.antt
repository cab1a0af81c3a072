pub mod CardBytes
