pub mod Fronts
pub mod Checking
pub mod EndReported
pub mod Events
pub mod Cited
