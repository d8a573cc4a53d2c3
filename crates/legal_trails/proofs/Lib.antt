mod Alone
pub mod Samples
mod Turned
