pub mod Notation
pub mod Readings
pub mod Literals
pub mod Tokens
