pub mod Walks
pub mod TypeTrees
