pub mod RunState
pub mod Sockets
pub mod NorthState
pub mod Refinement
