mod Rows
mod Writes
mod Phases
