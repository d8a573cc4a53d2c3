pub mod Fits
pub mod Alterations
