pub mod Known
pub mod Read
pub mod Orders
pub mod Cuts
pub mod Names
pub mod Families
