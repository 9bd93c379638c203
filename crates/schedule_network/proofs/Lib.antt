pub mod Numbered
pub mod Datagrams
pub mod Entered
pub mod ByKey
