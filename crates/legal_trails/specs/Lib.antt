pub mod Legal
pub mod Laws
pub mod Turns
pub mod Served
pub mod TurnLaws
