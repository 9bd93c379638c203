-- What bytes spell by the grammar of their direction: a segment between a client and the server, a message between the server and the logger, which may be
-- about marks, or a datagram between two loggers. A run has one of the two grammars of messages.
use Rattle.std.specs.Prelude.{ℕ, Option, None, Some, option_map, Result, Ok, Err, List}
use Rattle.seq_arith.specs.PacketGrammar as segments
use Rattle.seq_arith.specs.MessageGrammar as messages
use Rattle.seq_arith.specs.MarkGrammar as marks
use Rattle.seq_arith.specs.TwinGrammar as twins
use Rattle.seq_arith.specs.Mark.{MarkMessage}
use Rattle.seq_arith.specs.Message.{Message}
use Rattle.seq_arith.specs.TwinDatagram.{TwinDatagram}
use Rattle.seq_arith.specs.TwinDatagram.{TwinDatagram as datagrams}
use Rattle.seq_arith.specs.declared.kinds.BadMsg.{BadMsg}
use Rattle.seq_arith.specs.declared.kinds.Grammar.{Grammar}
use Rattle.seq_arith.specs.declared.kinds.Grammar.TheVariants.{Plain}
use Rattle.seq_arith.specs.declared.mark.BadMark.{BadMark}
use Rattle.seq_arith.specs.declared.twin.BadTwin.{BadTwin}
use Rattle.ft_model.specs.Network.{Packet}
use Rattle.ft_model.specs.Network.Packet.{To_server, To_client, To_logger, From_logger}
use Rattle.ft_model.specs.Report.{content_words, message_words, forward_words, got_words}
use Rattle.ft_model.specs.declared.way.Way.{Way}
use Rattle.ft_model.specs.declared.way.Way.TheVariants.{ClientToServer, ServerToClient, ServerToLogger, LoggerToServer, HeadToTail, TailToHead}
use Rattle.mark_laws.specs.MarkedReport.{mark_words}

abbrev pub said_as : {A E : Type 0} → (A → Packet) → Result A E → Option Packet
said_as packet (Ok x) = Some (packet x)
said_as packet (Err why) = None

-- the packet; none if the grammar refuses the bytes, and none for messages about marks and for datagrams between two loggers
abbrev pub packet_by : Grammar → Way → List ℕ → Option Packet
packet_by grammar (ClientToServer n) bytes = said_as To_server (segments.reading bytes)
packet_by grammar (ServerToClient n) bytes = said_as To_client (segments.reading bytes)
packet_by grammar ServerToLogger bytes = said_as To_logger (messages.reading_by grammar bytes)
packet_by grammar LoggerToServer bytes = said_as From_logger (messages.reading_by grammar bytes)
packet_by grammar HeadToTail bytes = None
packet_by grammar TailToHead bytes = None

-- the words of a message between server and logger, or of one about marks. Their magics differ, so no bytes are both
abbrev pub logged_words : Result Message BadMsg → Result MarkMessage BadMark → Option (List (List ℕ))
logged_words (Ok message) about_marks = Some (message_words message)
logged_words (Err why) (Ok message) = Some (mark_words message)
logged_words (Err why) (Err other) = None

-- the words of a datagram between two loggers. One that makes a logger serve alone is none of a run's packets
abbrev pub forwarded_words : ℕ → Result Message BadMsg → Option (List (List ℕ))
forwarded_words number (Ok message) = Some (forward_words number message)
forwarded_words number (Err why) = None

abbrev pub reported_words : Grammar → Result TwinDatagram BadTwin → Option (List (List ℕ))
reported_words grammar (Ok (datagrams.Forward number message)) = forwarded_words number (messages.reading_by grammar message)
reported_words grammar (Ok (datagrams.Got number)) = Some (got_words number)
reported_words grammar _ = None

-- the words of a packet's line after its direction
abbrev pub content_by : Grammar → Way → List ℕ → Option (List (List ℕ))
content_by grammar ServerToLogger bytes = logged_words (messages.reading_by grammar bytes) (marks.reading bytes)
content_by grammar LoggerToServer bytes = logged_words (messages.reading_by grammar bytes) (marks.reading bytes)
content_by grammar HeadToTail bytes = reported_words grammar (twins.reading_by grammar bytes)
content_by grammar TailToHead bytes = reported_words grammar (twins.reading_by grammar bytes)
content_by grammar way bytes = option_map content_words (packet_by grammar way bytes)

-- .. in a run of the plain grammar
abbrev pub content_in : Way → List ℕ → Option (List (List ℕ))
content_in way bytes = content_by Plain way bytes
