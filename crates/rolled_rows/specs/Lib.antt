pub mod RollUps
pub mod Groups
pub mod Laws
