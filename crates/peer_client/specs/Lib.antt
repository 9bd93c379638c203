pub mod Moves
pub mod Scripted
pub mod Stamping
pub mod Live
pub mod Refinement
