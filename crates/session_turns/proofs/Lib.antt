mod Attempts
mod Between
mod Finishing
pub mod Frames
mod Logs
mod Machine
mod Refused
mod Sessions
mod SoFar
mod Starting
mod Steps
mod Tries
mod Turning
