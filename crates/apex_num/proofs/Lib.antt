mod Checks
pub mod HalfEven
mod IdValues
pub mod Printing
mod Reading
mod Samples
