pub mod Ends
pub mod ErrText
pub mod PartialWrite
pub mod Stream
pub mod Checks
pub mod Outcome
pub mod Safe
