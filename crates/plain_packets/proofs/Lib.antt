pub mod Lengths
pub mod Ranges
pub mod Sent
pub mod Fins
pub mod Runs
pub mod Laying
pub mod Kept
pub mod Cited
