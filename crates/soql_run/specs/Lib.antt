pub mod Advances
pub mod Doings
pub mod Charging
pub mod Goings
