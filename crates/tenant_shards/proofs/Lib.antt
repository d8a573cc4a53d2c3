pub mod Logs
pub mod Asked
pub mod Tenants
pub mod Holders
pub mod Legality
pub mod Coming
pub mod Left
