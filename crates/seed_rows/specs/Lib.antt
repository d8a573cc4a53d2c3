pub mod Written
pub mod Words
pub mod Seeds
pub mod Views
pub mod Keys
pub mod Laws
pub mod Rows
pub mod Rolls
