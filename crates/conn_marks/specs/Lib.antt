pub mod Marks
pub mod KeyMarks
pub mod MarkSends
pub mod Settled
