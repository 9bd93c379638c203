-- The turns of a server over its link. In each turn it receives once, and hands to send all packets with which its node reacts, before it receives again.
-- Its profile says which grammar its messages have; those of the other one are noise.
use Rattle.std.specs.Prelude.{Bool, false, ◌||◌, map, flat_map, Option, None, Some, List, [], ◌∷◌, ◌++◌, if◌then◌else◌}
use Rattle.ft_io.specs.declared.Addr.{Addr}
use Rattle.ft_io.specs.declared.link_call.LinkCall.{LinkCall}
use Rattle.ft_io.specs.declared.link_call.LinkCall.TheVariants.{Handed}
use Rattle.seq_arith.specs.PacketGrammar as packets
use Rattle.seq_arith.specs.MessageGrammar as messages
use Rattle.seq_arith.specs.declared.kinds.Grammar.{Grammar}
use Rattle.ft_model.specs.Node.{Input}
use Rattle.ft_model.specs.Node.Input.{Tick_comes}
use Rattle.ft_model.specs.World.{segment_or_noise, message_or_noise}
use Rattle.ft_model.specs.Wire.{Party, Wire}
use Rattle.ft_model.specs.Wire.Party.{A_client, The_server, The_logger}
use Rattle.link_parts.specs.declared.role.Loggers.{Loggers}
use Rattle.link_parts.specs.Receipt.{is_from, Received, datagram, silence, failure, received_as}

abbrev pub is_from_second : Option Addr → Addr → Bool
is_from_second None from = false
is_from_second (Some second) from = is_from second from

abbrev pub is_from_logger : Loggers → Addr → Bool
is_from_logger loggers from = is_from loggers.first from || is_from_second loggers.second from

-- what was received, as the node's input: what comes from a logger's address is a message, from any other a packet, and nothing is a tick
abbrev pub input_from : Grammar → Loggers → Received → Input
input_from grammar loggers (datagram from bytes) =
    if is_from_logger loggers from then message_or_noise (messages.reading_by grammar bytes) else segment_or_noise (packets.reading bytes)
input_from grammar loggers silence = Tick_comes
input_from grammar loggers failure = Tick_comes

-- what a node sends, and whether the send fails: then it is lost. A message to two loggers is sent twice, and each of these sends may fail
pub record Sent : Type 0 where
  pub wire : Wire
  pub is_lost : Bool
  pub is_second_lost : Bool

abbrev pub wires_in : List Sent → List Wire
wires_in sent = map (λ s. s.wire) sent

-- a packet is sent to its client's own address, and a message to the logger's, or the first one's of two
abbrev pub address_of : Addr → Party → Addr
address_of logger (A_client key) = record { ip = key.ip; port = key.port }
address_of logger The_server = logger
address_of logger The_logger = logger

-- a second logger gets only the messages
abbrev pub second_for : Loggers → Party → Option Addr
second_for loggers (A_client key) = None
second_for loggers The_server = None
second_for loggers The_logger = loggers.second

abbrev pub sent_second : Option Addr → Sent → List LinkCall
sent_second None s = []
sent_second (Some second) s = Handed second s.wire.bytes s.is_second_lost ∷ []

-- a message is handed to send to the first logger, and next to the second, if there is one
abbrev pub sent_as : Loggers → Sent → List LinkCall
sent_as loggers s = Handed (address_of loggers.first s.wire.to) s.wire.bytes s.is_lost ∷ sent_second (second_for loggers s.wire.to) s

abbrev pub sending : Loggers → List Sent → List LinkCall
sending loggers sent = flat_map (sent_as loggers) sent

-- what was received, and what was handed to send then
pub record ServerTurn : Type 0 where
  pub received : Received
  pub sent : List Sent

abbrev pub turn_calls : Loggers → ServerTurn → List LinkCall
turn_calls loggers turn = received_as turn.received ∷ sending loggers turn.sent

-- the calls of a server, the oldest first: what its boot sends, and its turns (the newest first)
abbrev pub server_calls : Loggers → (at_boot : List Sent) → List ServerTurn → List LinkCall
server_calls loggers at_boot [] = sending loggers at_boot
server_calls loggers at_boot (turn ∷ earlier) = server_calls loggers at_boot earlier ++ turn_calls loggers turn
