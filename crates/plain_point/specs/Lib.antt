pub mod Values
pub mod Turn
pub mod Resumed
pub mod Copying
