-- The lines of a report between its header and its closing lines.
use Rattle.std.specs.Prelude.{◌≡◌, ℕ, ◌+◌, ◌<◌, false, codes, Some, None, List, [], ◌∷◌, ◌++◌, length}
use Rattle.server_trait.specs.Service.{Machine}
use Rattle.ft_model.specs.Client.{Client}
use Rattle.ft_model.specs.Network.{Packet}
use Rattle.ft_model.specs.Image.{HasWires}
use Rattle.ft_model.specs.Readable.{IsReadableTurn}
use Rattle.ft_model.specs.Report.{event_line, packet_line, packet_count, way_of}
use Rattle.ft_model.specs.World.{Moment, events_of}
use Rattle.ft_model.specs.declared.schedule.Schedule.{Schedule}
use Rattle.report_laws.specs.Transitions.{Position, AfterTurn, IsEventLine, begins_with, clients_in, grammar_in}
use Rattle.report_laws.specs.Transitions.Step.{Continues, Accepts}
use Rattle.report_laws.specs.Verdict.{AcceptedFrom}

-- the schedule, with the events of a trace
abbrev pub schedule_through : Schedule → List Moment → Schedule
schedule_through schedule trace = record schedule { events = events_of trace }

-- the lines of packets, numbered from n
abbrev pub packet_line_list : List Client → ℕ → List Packet → List (List ℕ)
packet_line_list clients n [] = []
packet_line_list clients n (p ∷ ps) = packet_line n (way_of clients p) p ∷ packet_line_list clients (n + 1) ps

-- the lines of a trace's turns: each event's, and its packets'
abbrev pub turn_line_list : Schedule → List Moment → List (List ℕ)
turn_line_list schedule [] = []
turn_line_list schedule (m ∷ earlier) =
    turn_line_list schedule earlier ++ event_line (length earlier + 1) m.event ∷ packet_line_list (clients_in schedule) (packet_count earlier + 1) m.sent

-- a turn whose event line and packet lines are canonical
pub record IsCanonicalTurn (schedule : Schedule) (m : Moment) (earlier : List Moment) : Type 0 where
  pub event : IsEventLine (schedule_through schedule earlier) (length earlier + 1) m.event (event_line (length earlier + 1) m.event)
  pub few : length earlier < 100000
  pub readable : IsReadableTurn schedule.server (clients_in schedule) m
  pub written : HasWires (grammar_in schedule) m

abbrev pub AllCanonical : Schedule → List Moment → Type 0
AllCanonical schedule [] = Unit {0}
AllCanonical schedule (m ∷ earlier) = AllCanonical schedule earlier × IsCanonicalTurn schedule m earlier

-- the first of these lines is no packet line
abbrev pub NoPacketFirst : List (List ℕ) → Type 0
NoPacketFirst [] = Unit {0}
NoPacketFirst (line ∷ lines) = begins_with (codes "packet ") line ≡ false

-- after a legal trace, these lines are accepted
abbrev pub AcceptedAfter : {State : Type 0} → (ℕ → Machine State) → Schedule → List Moment → List (List ℕ) → Type 0
AcceptedAfter service schedule trace [] = AfterTurn schedule trace None Accepts
AcceptedAfter service schedule trace (line ∷ lines) = (next : Position) × AfterTurn schedule trace (Some line) (Continues next)
    × AcceptedFrom service next lines
