pub mod Saves
pub mod Flows
pub mod Constructions
pub mod Endings
pub mod Scenes
pub mod Simples
pub mod Statements
