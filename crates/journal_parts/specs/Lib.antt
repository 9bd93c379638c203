pub mod Ends
pub mod LoggerLife
pub mod Outcome
pub mod Rounds
pub mod RoundParts
pub mod Words
pub mod Waits
pub mod Due
