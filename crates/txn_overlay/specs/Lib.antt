pub mod Changes
pub mod Merging
pub mod Journals
pub mod Logs
