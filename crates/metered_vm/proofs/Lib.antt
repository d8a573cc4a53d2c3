pub mod Modes
pub mod Running
pub mod Once
pub mod Callers
pub mod Leads
pub mod AtOnce
