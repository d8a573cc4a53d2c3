pub mod Logs
pub mod Parts
pub mod Tenants
pub mod Changes
pub mod Shards
pub mod Finishes
