pub mod Streams
pub mod Patterns
pub mod Requests
pub mod Lines
pub mod Cuts
pub mod Whole
pub mod Unfolded
