pub mod Blocks
mod Files
mod Grammars
mod Headers
pub mod Lives
pub mod Logs
pub mod Messages
pub mod Once
mod Onward
mod Settled
mod Starts
mod Steps
mod Whole
pub mod Deaths
pub mod OneReading
pub mod Drafts
pub mod Said
pub mod Cited
