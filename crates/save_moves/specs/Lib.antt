pub mod Advances
pub mod Goings
