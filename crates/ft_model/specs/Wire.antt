-- A packet as bytes: its sender and its receiver, and the one spelling in which this project writes it (RFC 791, 3.1; RFC 9293, 3.1; the messages' own format).
-- The definitions work with values; these are their bytes. How messages are written depends on the profile: it names their grammar.
use Rattle.std.specs.Prelude.{ℕ, List}
use Rattle.ft_io.specs.declared.Key.{Key}
use Rattle.seq_arith.specs.Packet.{Segment}
use Rattle.seq_arith.specs.Message.{Message}
use Rattle.seq_arith.specs.PacketGrammar as segments
use Rattle.seq_arith.specs.MessageGrammar as messages
use Rattle.seq_arith.specs.declared.kinds.Grammar.{Grammar}
use Rattle.seq_arith.specs.declared.kinds.Grammar.TheVariants.{Plain}
use Rattle.server_trait.specs.Service.{AreBytes}
use Rattle.ft_model.specs.Network.{Packet, source_of, destination_of}
use Rattle.ft_model.specs.Network.Packet.{To_server, To_client, To_logger, From_logger}

-- a sender or receiver of a packet. A client is known by its address and port
pub data Party : Type 0 where
  A_client : Key → Party
  The_server : Party
  The_logger : Party

pub record Wire : Type 0 where
  pub from : Party
  pub to : Party
  pub bytes : List ℕ

abbrev pub wire_by : Grammar → Packet → Wire
wire_by grammar (To_server segment) = record { from = A_client (source_of segment); to = The_server; bytes = segments.spelling segment }
wire_by grammar (To_client segment) = record { from = The_server; to = A_client (destination_of segment); bytes = segments.spelling segment }
wire_by grammar (To_logger message) = record { from = The_server; to = The_logger; bytes = messages.spelling_by grammar message }
wire_by grammar (From_logger message) = record { from = The_logger; to = The_server; bytes = messages.spelling_by grammar message }

-- a segment can be written: each field fits its place, the segment fits a packet, and the text is bytes
abbrev pub CanBeSent : Segment → Type 0
CanBeSent segment = segments.IsSpellable segment × AreBytes segment.payload

-- a message can be written: each number fits its place and is in its field's range, and what follows the fields is bytes
abbrev pub CanBeWrittenBy : Grammar → Message → Type 0
CanBeWrittenBy grammar message = messages.IsSpellableBy grammar message × AreBytes (messages.behind_of message.body)

-- the packet can be written, so its wire determines it
abbrev pub HasWireBy : Grammar → Packet → Type 0
HasWireBy grammar (To_server segment) = CanBeSent segment
HasWireBy grammar (To_client segment) = CanBeSent segment
HasWireBy grammar (To_logger message) = CanBeWrittenBy grammar message
HasWireBy grammar (From_logger message) = CanBeWrittenBy grammar message

-- the same in the plain grammar
abbrev pub wire_of : Packet → Wire
wire_of packet = wire_by Plain packet

abbrev pub CanBeWritten : Message → Type 0
CanBeWritten message = CanBeWrittenBy Plain message

abbrev pub HasWire : Packet → Type 0
HasWire packet = HasWireBy Plain packet
