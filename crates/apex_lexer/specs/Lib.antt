pub mod Reserved
pub mod Words
pub mod Lexemes
pub mod Brackets
pub mod Unclosed
pub mod Scans
pub mod Reading
pub mod Passes
