pub mod Reply
pub mod Command
pub mod Phase
pub mod Mail
pub mod Laws
pub mod Session
