pub mod Besides
pub mod Sources
pub mod Paths
pub mod Values
pub mod Binds
pub mod OpenQueries
