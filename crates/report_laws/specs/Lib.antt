pub mod Lines
pub mod Canonical
pub mod Transitions
pub mod Verdict
pub mod TurnLines
