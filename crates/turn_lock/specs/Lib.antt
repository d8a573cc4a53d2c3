pub mod Turns
pub mod Passes
