pub mod Heads
pub mod Lines
pub mod Pairs
pub mod Modifiers
pub mod Members
pub mod Keys
pub mod Lookups
pub mod Tables
