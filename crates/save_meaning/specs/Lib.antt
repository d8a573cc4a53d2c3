pub mod Sites
pub mod Results
pub mod Transactions
pub mod Drafts
pub mod Inserts
pub mod Counts
pub mod Laws
pub mod MoveLaws
