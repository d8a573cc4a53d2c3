pub mod Queries
pub mod Readers
