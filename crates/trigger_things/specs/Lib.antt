pub mod Capped
pub mod Collected
pub mod Lefts
pub mod Things
