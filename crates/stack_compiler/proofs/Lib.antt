pub mod Offsets
pub mod Texts
pub mod Grows
