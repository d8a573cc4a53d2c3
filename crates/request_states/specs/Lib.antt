pub mod Refusals
pub mod States
pub mod Values
pub mod Expressions
pub mod Statements
pub mod Runs
