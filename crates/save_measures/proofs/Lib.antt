mod Keeping
pub mod Lower
pub mod Pay
