pub mod Goes
pub mod Asking
