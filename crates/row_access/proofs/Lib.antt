pub mod Ascents
pub mod Owners
