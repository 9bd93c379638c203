pub mod Replies
pub mod AnyMessage
