pub mod AtNumber
pub mod StoredPackets
pub mod Loggers
pub mod FullLog
pub mod Logs
