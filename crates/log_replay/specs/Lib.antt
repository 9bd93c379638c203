pub mod LoggedHead
pub mod ReadLengths
pub mod Replay
