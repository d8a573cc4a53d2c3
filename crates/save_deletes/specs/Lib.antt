pub mod Heads
pub mod Downward
