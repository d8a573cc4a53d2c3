pub mod Blocks
pub mod Laws
pub mod Sessions
pub mod Replies
