pub mod Maps
pub mod Seen
pub mod Conds
pub mod Asking
pub mod Orders
pub mod Overs
pub mod Readings
pub mod Chains
pub mod Known
pub mod Shares
pub mod Gathering
pub mod Plain
pub mod Tame
pub mod Runs
mod Samples
