mod Lists
mod Charged
mod Same
mod Fields
mod CellSteps
mod Made
mod Sizes
mod Told
mod Called
mod Advancing
mod Framed
mod Messages
mod Named
pub mod Lines
mod Querying
mod Fired
