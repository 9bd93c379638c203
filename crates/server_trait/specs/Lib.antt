pub mod Service
pub mod Saved
