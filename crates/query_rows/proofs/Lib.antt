pub mod FamilyPlaces
pub mod Folds
pub mod Keys
pub mod KnownRows
pub mod RisingIds
pub mod Sorts
