pub mod Writes
pub mod Does
