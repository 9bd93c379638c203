mod Deaths
pub mod Reporting
pub mod Writing
pub mod Ends
