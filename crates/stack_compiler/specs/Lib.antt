pub mod Offsets
pub mod Codes
pub mod Clauses
