pub mod AnswerCalls
pub mod Cited
pub mod EndReport
pub mod Gathering
pub mod Living
pub mod Rounding
pub mod Waiting
