pub mod Readings
pub mod Words
pub mod Bundles
pub mod Laws
