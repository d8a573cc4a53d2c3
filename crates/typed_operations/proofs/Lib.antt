pub mod NullSides
pub mod LastParts
