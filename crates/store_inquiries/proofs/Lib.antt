pub mod Inquiring
