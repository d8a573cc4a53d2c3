pub mod Moving
pub mod Begins
mod Tables
mod Rooms
