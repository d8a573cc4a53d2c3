pub mod Namings
pub mod Layers
pub mod Held
