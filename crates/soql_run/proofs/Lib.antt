pub mod Asking
pub mod Goes
