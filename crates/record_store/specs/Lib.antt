pub mod Heaps
pub mod Places
