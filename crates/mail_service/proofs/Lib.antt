pub mod Bytes
pub mod Words
pub mod Replies
pub mod Lines
pub mod Messages
