pub mod Answers
pub mod Built
pub mod Commands
pub mod Exec
pub mod Made
pub mod Turns
pub mod Words
