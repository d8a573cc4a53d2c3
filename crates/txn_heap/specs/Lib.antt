pub mod Changes
pub mod Equal
pub mod Guards
pub mod Statics
pub mod Words
