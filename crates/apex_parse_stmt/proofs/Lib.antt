mod Moving
mod Looks
mod Rooms
mod Starts
pub mod Begins
