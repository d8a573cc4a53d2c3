pub mod Answers
pub mod Meanings
pub mod Shown
pub mod Laws
