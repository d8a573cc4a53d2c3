mod Saves
pub mod Sparing
pub mod Driving
pub mod Chunks
pub mod Places
pub mod Once
pub mod Attempts
pub mod Saving
pub mod Follows
