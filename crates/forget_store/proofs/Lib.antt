pub mod Forgets
pub mod AnyLogs
