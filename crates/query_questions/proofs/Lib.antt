pub mod Followed
pub mod Folded
pub mod Totals
