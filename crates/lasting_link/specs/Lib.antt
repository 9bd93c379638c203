pub mod LastingWords
pub mod LastingLife
pub mod LastingParts
