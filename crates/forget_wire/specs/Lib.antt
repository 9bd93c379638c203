pub mod Value
pub mod Spelling
