pub mod Users
pub mod Laws
