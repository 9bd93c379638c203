pub mod Watches
pub mod ByKey
pub mod Moments
pub mod Ticks
