-- Worked runs: traces and turns spelled out packet by packet. The laws in `worked_runs` say that they are lawful, or refused. Those in `weakened` say what
-- becomes of the client if one moment of them is wrong.
pub mod Common
pub mod FirstPath
pub mod ChangedBit
pub mod RestartFromHello
pub mod CrashAfterLogged
pub mod Closing
pub mod ZeroWindow
pub mod RightEdge
pub mod BeyondNext
pub mod HeldSegments
pub mod CongestionWindow
pub mod DelayedAck
pub mod Batch
pub mod MeasuredRecovery
pub mod SegmentWhileRestarting
pub mod RestartInTurns
pub mod ClientKnowsMore
pub mod CrashBeforeSynAck
pub mod ZeroWindowTrace
pub mod EarlyAcknowledgement
pub mod ResetWhileRestarting
pub mod UnloggedRead
