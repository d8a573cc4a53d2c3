pub mod Values
pub mod Sorts
pub mod Tokens
pub mod Grammar
pub mod Readings
