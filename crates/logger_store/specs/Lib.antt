pub mod Changes
pub mod StoreState
pub mod Trim
