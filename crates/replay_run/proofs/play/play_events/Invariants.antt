use Rattle.std.proofs.Common.{◌≡◌, ℕ, List, Option, drop}
use Rattle.net_schedule.specs.WorldView.{kept}
use Rattle.replay_run.specs.Playback.{Reaches}
use Rattle.replay_run.specs.TraceEnd.{IsStanding}
use Rattle.replay_run.proofs.play.play_events.Given as goal

-- all events but the ones that are left are played, and no call of the sink has failed
abbrev pub invariant-loop-i : goal.invariant-loop-i
invariant-loop-i g l =
    IsStanding (kept l.world)
    × ((old : Option (List ℕ)) → Reaches l.schedule l.events (kept l.initial.world) old (g.O.Sink.taken l.initial.out) l.initial.report.held.items
    → Reaches l.schedule (drop l.i l.events) (kept l.world) old (g.O.Sink.taken l.out) l.report.held.items)
    × (g.O.Sink.fault_count l.out ≡ g.O.Sink.fault_count l.initial.out)
