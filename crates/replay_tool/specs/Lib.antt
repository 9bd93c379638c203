pub mod Words
pub mod SeedRuns
pub mod Kinds
