pub mod Finding
pub mod Phasing
