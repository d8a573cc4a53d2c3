pub mod Composing
pub mod IdSets
