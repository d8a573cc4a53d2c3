pub mod Place
pub mod Fold
