pub mod Questions
pub mod Parents
pub mod Queries
pub mod Laws
