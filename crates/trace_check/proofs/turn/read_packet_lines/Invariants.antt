use Rattle.std.proofs.Common.{◌≡◌, ℕ, ◌+◌, ◌-◌, ◌≤◌, List, [], length, drop}
use Rattle.ft_model.specs.Legal.{machines}
use Rattle.ft_model.specs.Report.{packet_count}
use Rattle.ft_model.specs.World.{Moment}
use Rattle.ft_model.specs.declared.event.Event.{Event}
use Rattle.report_laws.specs.Transitions.Position.{InTurn}
use Rattle.trace_check.specs.Leads.{Leads}
use Rattle.trace_check.specs.Turn.{ReportsPackets, with_events}
use Rattle.trace_check.proofs.turn.read_packet_lines.Given as goal

abbrev pub invariant-loop-end : goal.invariant-loop-end
invariant-loop-end g l =
    let service = machines g.S.Service.started g.S.Service.after g.S.Service.greeting in
    (l.at ≤ l.end) × (l.end ≤ length l.text) × (l.reported + l.count ≤ 200000)
    × ((events : List Event) (trace : List Moment) (event : Event) (lines : ℕ) → packet_count trace ≡ l.reported
    → Leads service l.text (InTurn (with_events l.schedule events) trace event []) (drop l.at l.text) lines
    → ReportsPackets service l.text (with_events l.schedule events) trace event l.at l.end (lines + l.count) l.count)

abbrev pub decreases-loop-end : goal.decreases-loop-end
decreases-loop-end g l = length l.text - l.end
