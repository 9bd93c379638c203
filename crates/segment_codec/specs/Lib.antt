pub mod Value
pub mod Change
pub mod Options
pub mod Spelling
