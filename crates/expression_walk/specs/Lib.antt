pub mod Views
pub mod Leaves
pub mod Expressions
pub mod Gatherings
