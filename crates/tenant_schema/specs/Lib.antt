pub mod Deployed
pub mod Answers
