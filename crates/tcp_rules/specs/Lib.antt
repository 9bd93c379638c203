pub mod Arrival
pub mod Early
pub mod Coming
pub mod Congestion
pub mod Timing
pub mod Profile
pub mod Profiles
pub mod Timestamping
