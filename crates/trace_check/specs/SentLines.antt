-- The lines of packets that are kept as bytes.
use Rattle.std.specs.Prelude.{ℕ, ◌+◌, Option, Some, None, is_some, List, [], ◌∷◌, ◌++◌, position, IsSome, if◌then◌else◌}
use Rattle.std.specs.Option.{option_map_or}
use Rattle.std.specs.List.{AllByRecursion}
use Rattle.ft_io.specs.declared.Key.{Key}
use Rattle.ft_io.specs.Key.{key_eq}
use Rattle.seq_arith.specs.declared.kinds.Grammar.TheVariants.{Wide}
use Rattle.ft_model.specs.Client.{Client, mover_of}
use Rattle.ft_model.specs.Report.{line_of_packet, number_of_client}
use Rattle.ft_model.specs.Wire.{Wire, Party}
use Rattle.ft_model.specs.Wire.Party.{A_client, The_server, The_logger}
use Rattle.ft_model.specs.declared.event.Event.{Event}
use Rattle.ft_model.specs.declared.event.Event.TheVariants.{Deliver, Flip}
use Rattle.ft_model.specs.declared.schedule.ClientLine.{ClientLine}
use Rattle.ft_model.specs.declared.way.Way.{Way}
use Rattle.ft_model.specs.declared.way.Way.TheVariants.{ClientToServer, ServerToClient, ServerToLogger, LoggerToServer}
use Rattle.plain_packets.specs.Sent.{wire_at}
use Rattle.report_laws.specs.declared.Law.{Law}
use Rattle.report_laws.specs.declared.Law.TheVariants as law
use Rattle.schedule_text.specs.Bytes.{content_by}

-- the number of the client with this key among a schedule's, counted from 1; 0 for none
abbrev pub number_in : List ClientLine → Key → ℕ
number_in lines key = option_map_or (λ i. i + 1) (position (λ line. key_eq line.key key) lines) 0

-- the direction of a packet that a party sends to another
abbrev pub way_between : List Client → (from to : Party) → Way
way_between clients (A_client key) to = ClientToServer (number_of_client clients key)
way_between clients The_server (A_client key) = ServerToClient (number_of_client clients key)
way_between clients The_server to = ServerToLogger
way_between clients The_logger to = LoggerToServer

abbrev pub way_along : List Client → Wire → Way
way_along clients wire = way_between clients wire.from wire.to

-- the words of a packet's line after its direction
abbrev pub words_in : List Client → Wire → Option (List (List ℕ))
words_in clients wire = content_by Wide (way_along clients wire) wire.bytes

abbrev pub wire_line : List Client → ℕ → Wire → List ℕ
wire_line clients n wire = option_map_or (line_of_packet n (way_along clients wire)) (words_in clients wire) []

-- packets numbered from n on
abbrev pub wire_lines : List Client → ℕ → List Wire → List ℕ
wire_lines clients n [] = []
wire_lines clients n (wire ∷ wires) = wire_line clients n wire ++ wire_lines clients (n + 1) wires

-- each of them can be read
abbrev pub CanBeRead : List Client → List Wire → Type 0
CanBeRead clients wires = AllByRecursion (λ wire. IsSome (words_in clients wire)) wires

-- the law of a party that receives a packet
abbrev pub law_of : Party → Law
law_of (A_client key) = law.Client
law_of The_server = law.Server
law_of The_logger = law.Log

abbrev pub law_at : Option Wire → Law
law_at (Some wire) = law_of wire.to
law_at None = law.Server

-- .. and of the party whose turn an event is
abbrev pub actor_along : List Wire → Event → Law
actor_along wires (Deliver number) = law_at (wire_at wires number)
actor_along wires (Flip number bit) = law_at (wire_at wires number)
actor_along wires event = if is_some (mover_of event) then law.Client else law.Server
