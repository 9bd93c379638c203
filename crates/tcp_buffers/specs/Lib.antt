pub mod SendNumbers
pub mod Near
pub mod Runs
pub mod Queue
