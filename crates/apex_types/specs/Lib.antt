pub mod Homes
pub mod Bodies
pub mod Constructors
pub mod Written
pub mod OpenClasses
pub mod Members
pub mod Units
pub mod Checks
