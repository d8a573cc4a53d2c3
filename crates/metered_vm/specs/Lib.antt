pub mod Callers
pub mod Calls
pub mod Control
pub mod Leaving
pub mod Keeps
pub mod Runs
