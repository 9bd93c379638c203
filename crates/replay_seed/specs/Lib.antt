pub mod Draws
pub mod SeedEvents
pub mod Generated
pub mod SeedWords
pub mod SummaryText
pub mod SeedSummaries
