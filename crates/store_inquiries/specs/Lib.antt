pub mod Inquiries
pub mod Questions
pub mod Laws
