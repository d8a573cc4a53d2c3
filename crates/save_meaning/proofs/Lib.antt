pub mod Holding
pub mod Samples
pub mod Counting
pub mod Locals
