pub mod Lengths
pub mod Forging
pub mod Cited
