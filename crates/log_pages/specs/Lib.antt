pub mod Levels
pub mod Pages
