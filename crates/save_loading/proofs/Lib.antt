pub mod Placing
pub mod Loads
pub mod Nexts
pub mod Parts
pub mod Cells
