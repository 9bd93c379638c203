mod Alike
pub mod Lens
pub mod MarkRead
pub mod MarkSpelled
pub mod NumbersRead
pub mod OneSpelling
pub mod Placed
pub mod Placing
pub mod Putting
pub mod Sendable
pub mod TwinSpelled
pub mod Unfolded
