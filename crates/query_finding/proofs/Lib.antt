pub mod Lists
pub mod Chaining
pub mod Over
pub mod Seeing
pub mod Parts
pub mod Below
