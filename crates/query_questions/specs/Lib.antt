pub mod Capped
pub mod Reads
pub mod Ways
