pub mod Exprs
pub mod Laws
