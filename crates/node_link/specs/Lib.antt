pub mod Incarnation
pub mod KeyLife
pub mod ServerStages
pub mod Outcome
pub mod ServerLife
pub mod ServerTurns
pub mod ServerParts
