pub mod Clients
pub mod Boots
pub mod Allowed
pub mod FirstSchedule
pub mod Stepping
pub mod Facts
pub mod Summing
