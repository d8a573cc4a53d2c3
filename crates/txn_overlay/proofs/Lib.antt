pub mod Merges
pub mod Steps
pub mod Writing
pub mod Undoing
