pub mod Loops
pub mod Pieces
pub mod Forms
pub mod Expressions
pub mod Statements
pub mod Bodies
pub mod Images
