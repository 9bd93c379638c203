pub mod Progress
pub mod Marking
pub mod Questions
pub mod Refinement
pub mod Splice
