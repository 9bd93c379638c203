pub mod OneTurn
pub mod OneMoment
pub mod OneTrace
pub mod OneOutcome
