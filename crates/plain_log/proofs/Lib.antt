pub mod ReadLengths
pub mod Mapped
pub mod Ranges
pub mod Replies
pub mod Following
pub mod Cited
