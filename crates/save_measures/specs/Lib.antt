pub mod Paid
pub mod Measure
pub mod Laws
