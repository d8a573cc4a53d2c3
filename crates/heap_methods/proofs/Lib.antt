pub mod Kept
pub mod Carried
pub mod Sorts
pub mod Sorting
pub mod Unchanged
