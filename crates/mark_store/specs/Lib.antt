pub mod Bytes
pub mod Refinement
