pub mod State
pub mod News
pub mod Made
pub mod Before
pub mod Since
pub mod Copying
pub mod Turn
