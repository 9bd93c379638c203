pub mod PairOutcome
pub mod PartLife
pub mod PartTurns
pub mod StopNotice
pub mod PartSteps
pub mod PairWords
