pub mod Arrival
pub mod MemLink
pub mod MemSink
pub mod MemSource
pub mod MemSpawner
pub mod NumberedCalls
pub mod ProcessSpawner
pub mod UdpLink
