pub mod Records
pub mod Value
pub mod Places
pub mod Spelling
pub mod MarkSpelling
pub mod MarkValue
pub mod TwinHeader
pub mod TwinValue
