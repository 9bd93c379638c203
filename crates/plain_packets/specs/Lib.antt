pub mod Parties
pub mod Sent
