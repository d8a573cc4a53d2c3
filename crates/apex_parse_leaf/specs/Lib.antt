pub mod Types
pub mod Ends
pub mod Casts
pub mod Leaves
