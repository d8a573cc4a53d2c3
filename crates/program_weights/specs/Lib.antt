pub mod Weights
pub mod Keeps
