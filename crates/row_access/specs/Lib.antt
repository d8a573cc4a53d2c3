pub mod Ranks
pub mod Views
