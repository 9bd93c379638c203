pub mod ForgetRead
pub mod ForgetWritten
