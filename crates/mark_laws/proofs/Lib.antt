pub mod Runs
pub mod Closing
pub mod MarksSent
mod Answered
mod Own
pub mod Packets
pub mod Steps
pub mod Strip
pub mod Turns
mod Fronts
pub mod Truth
pub mod MarkSteps
pub mod Noise
pub mod LogSteps
pub mod Traces
mod OneTurn
mod OneWorld
mod OneOutcome
mod OneTrace
mod WorkedTrace
mod WorkedLegal
mod WrongMarks
mod LawOfMarks
pub mod Premises
mod SeenTurns
mod Formed
mod Counted
pub mod Written
