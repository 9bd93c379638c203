use Rattle.std.proofs.Common.{take}
use Rattle.net_schedule.specs.WorldView.{kept}
use Rattle.own_service.specs.ClientView.{IsPlayed}
use Rattle.own_service.proofs.play.Given as goal

-- the events up to here are played
abbrev pub invariant-loop-event : goal.invariant-loop-event
invariant-loop-event l = IsPlayed l.schedule (take l.event-index l.schedule.events) (kept l.world)
