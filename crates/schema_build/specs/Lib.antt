pub mod Chains
pub mod Lookups
