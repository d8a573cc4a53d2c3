pub mod Dues
pub mod Answers
pub mod Statics
pub mod Laws
