pub mod Shapes
pub mod Records
pub mod Ways
pub mod Knowing
pub mod Making
pub mod Laws
