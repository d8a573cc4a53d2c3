pub mod Choices
pub mod Samples
pub mod Totals
