pub mod Parts
pub mod Reply
pub mod Following
pub mod Values
