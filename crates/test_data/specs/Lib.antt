pub mod Draws
pub mod Hash
pub mod Pattern
