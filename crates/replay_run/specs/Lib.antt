pub mod Traces
pub mod PlayedRun
pub mod PacketLines
pub mod TraceEnd
pub mod Playback
pub mod Runs
pub mod Causes
