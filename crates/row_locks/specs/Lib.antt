pub mod Holders
pub mod Locks
