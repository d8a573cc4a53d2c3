pub mod Stmts
pub mod Units
pub mod Laws
