pub mod Allowed
pub mod Asking
pub mod Elsewhere
pub mod Flattening
mod Folds
mod Holding
pub mod StoredParts
mod Noise
pub mod Numbering
mod OneOutcome
mod OneTrace
pub mod OneTurn
mod Steps
mod CatchingUp
mod WorkedPair
mod WorkedStop
pub mod TraceBytes
