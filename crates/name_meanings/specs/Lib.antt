pub mod Settings
pub mod Parts
pub mod Fields
pub mod Spaces
pub mod Variables
pub mod Records
pub mod Accesses
pub mod NamesAlone
