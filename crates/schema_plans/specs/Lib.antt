pub mod Children
pub mod Formulas
pub mod Plans
pub mod Schemas
pub mod Validity
