pub mod Kinds
pub mod Names
pub mod Members
pub mod Classes
pub mod Triggers
pub mod Laws
