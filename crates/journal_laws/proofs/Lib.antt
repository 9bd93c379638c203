pub mod Dying
pub mod LifeFront
pub mod Fronts
pub mod OneLog
pub mod Resting
pub mod Saying
pub mod Staying
pub mod Stepping
mod Replacing
