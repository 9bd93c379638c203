pub mod Texts
pub mod Bytes
pub mod Made
pub mod Framing
pub mod Replies
pub mod Messages
