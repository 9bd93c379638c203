pub mod Counts
pub mod Lived
pub mod Kept
pub mod Reported
pub mod Rests
pub mod Restarted
pub mod Noted
pub mod Released
