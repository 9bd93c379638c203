pub mod JournaledLog
pub mod Life
pub mod Startup
pub mod ReadSteps
pub mod MessageList
pub mod Format
pub mod Draft
pub mod Compaction
