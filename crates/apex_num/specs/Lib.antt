pub mod Decimals
pub mod Ids
pub mod Rounding
