pub mod Scopes
pub mod Locals
