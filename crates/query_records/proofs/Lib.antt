pub mod Followed
pub mod Overs
pub mod There
pub mod Ids
mod Samples
