pub mod Indices
pub mod Fillings
pub mod Fields
