pub mod Turns
pub mod Notes
pub mod Tending
pub mod Shown
