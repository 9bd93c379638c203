pub mod Faults
pub mod Key
pub mod Link
pub mod Sink
pub mod Source
pub mod Spawner
pub mod Reported
