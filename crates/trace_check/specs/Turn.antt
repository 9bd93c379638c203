-- The packet lines of an event.
use Rattle.std.specs.Prelude.{◌≡◌, true, ℕ, ◌+◌, ◌≤◌, List, [], ◌∷◌, length, map, take, drop}
use Rattle.std.specs.List.{AllByRecursion}
use Rattle.server_trait.specs.Service.{Machine}
use Rattle.ft_model.specs.Network.{Packet}
use Rattle.ft_model.specs.Readable.{FitsSchedule}
use Rattle.ft_model.specs.Report.{packet_count, packet_lines}
use Rattle.ft_model.specs.Wire.{Wire}
use Rattle.plain_packets.specs.Sent.{kept_wire, CanBeKept}
use Rattle.ft_model.specs.World.{Moment, are_apart}
use Rattle.ft_model.specs.declared.event.Event.{Event}
use Rattle.ft_model.specs.declared.schedule.Schedule.{Schedule}
use Rattle.report_laws.specs.Lines.{lines_in}
use Rattle.report_laws.specs.Transitions.{IsPacketLine, clients_in}
use Rattle.report_laws.specs.Transitions.Position.{InTurn}
use Rattle.trace_check.specs.Leads.{Leads}

-- a schedule with these events
abbrev pub with_events : Schedule → List Event → Schedule
with_events schedule events = record schedule { events = events }

-- the lines between two places are those of `count` packets, and lead on in the turn
pub record ReportsPackets {State : Type 0} (service : ℕ
    → Machine State) (text : List ℕ) (schedule : Schedule) (trace : List Moment) (event : Event) (from at lines count : ℕ) : Type 0 where
  pub sent : List Packet
  pub count_is : length sent ≡ count
  pub reported : drop from (take at text) ≡ packet_lines (clients_in schedule) (packet_count trace + 1) sent
  pub leads : Leads service text (InTurn schedule trace event sent) (drop at text) lines

-- the next of these lines isn't that of packet n
abbrev pub EndsTurn : Schedule → (n : ℕ) → List (List ℕ) → Type 0
EndsTurn schedule n [] = Unit {0}
EndsTurn schedule n (line ∷ lines) = (packet : Packet) → IsPacketLine schedule n packet line → ⊥

-- the text between two places is `due`, and the next line isn't that of packet n
pub record IsReported (text : List ℕ) (schedule : Schedule) (from end n : ℕ) (due : List ℕ) : Type 0 where
  pub begins : from ≤ end
  pub within : end ≤ length text
  pub reported : drop from (take end text) ≡ due
  pub ends : EndsTurn schedule n (lines_in (drop end text))

-- .. where `due` is the lines of all packets of a turn, numbered from `first`
pub record ReportsTurn (text : List ℕ) (schedule : Schedule) (from end first : ℕ) (sent : List Packet) : Type 0 where
  pub is : IsReported text schedule from end (first + length sent) (packet_lines (clients_in schedule) first sent)
  pub few : first + length sent ≤ 200001

-- the kept wires after the first `before` ones are those of these packets
pub record AreSent (wires : List Wire) (before : ℕ) (sent : List Packet) : Type 0 where
  pub wires_are : drop before wires ≡ map kept_wire sent
  pub count : length wires ≡ before + length sent
  pub have : AllByRecursion CanBeKept sent

-- the facts about a schedule whose header is read
pub record IsChecked (schedule : Schedule) : Type 0 where
  pub few : length schedule.clients ≤ 16
  pub fits : FitsSchedule schedule
  pub apart : are_apart schedule.server (clients_in schedule) ≡ true
