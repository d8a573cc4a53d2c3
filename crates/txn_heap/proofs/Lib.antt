pub mod Places
pub mod Distinct
pub mod Prepared
pub mod Written
