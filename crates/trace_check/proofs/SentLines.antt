-- The lines of packets that are kept as bytes are the lines that a report has of them.
use Rattle.std.proofs.Common.{◌≡◌, ℕ, zero, suc, ◌+◌, ◌<◌, Option, Some, None, option_map, IsSome, IfSome, List, [], ◌∷◌, ◌++◌, length, map, get_or, refl, sym, ap, ap₂, ◌∙◌, subst, arith, if◌then◌else◌}
use Rattle.std.specs.Prelude.{nat_lt, not, position}
use Rattle.std.specs.List.{position_or_len}
use Rattle.std.proofs.lemmas.List.{length-map}
use Rattle.std.specs.Option.{option_map_or}
use Rattle.std.specs.List.{AllByRecursion}
use Rattle.ft_io.specs.declared.Key.{Key}
use Rattle.ft_io.specs.declared.Addr.{Addr}
use Rattle.ft_io.specs.Key.{key_eq}
use Rattle.seq_arith.specs.declared.kinds.Grammar.TheVariants.{Wide}
use Rattle.seq_arith.specs.Message.{Message}
use Rattle.seq_arith.specs.MessageGrammar as messages
use Rattle.seq_arith.specs.MarkGrammar as marks
use Rattle.seq_arith.proofs.MessageSpelling.{message_is_read}
use Rattle.seq_arith.proofs.Spelling.{spelling_is_read}
use Rattle.ft_model.specs.Client.{Client}
use Rattle.ft_model.specs.Network.{Packet, packet_at}
use Rattle.ft_model.specs.Network.Packet.{To_server, To_client, To_logger, From_logger}
use Rattle.ft_model.specs.Report.{content_words, line_of_packet, message_words, number_of_client, packet_line, packet_lines, way_of}
use Rattle.ft_model.specs.Schedule.{client_of, clients_of}
use Rattle.ft_model.specs.Wire.{Wire}
use Rattle.ft_model.specs.World.{World}
use Rattle.ft_model.specs.declared.event.Event.{Event}
use Rattle.ft_model.specs.declared.event.Event.TheVariants as events
use Rattle.ft_model.specs.declared.schedule.ClientLine.{ClientLine}
use Rattle.ft_model.specs.declared.schedule.Schedule.{Schedule}
use Rattle.plain_packets.specs.Sent.{wire_at, kept_wire, CanBeKept}
use Rattle.plain_packets.proofs.Sent.{wire_numbered}
use Rattle.report_laws.specs.Transitions.{actor, clients_in, receiver}
use Rattle.schedule_text.specs.Bytes.{logged_words}
use Rattle.trace_check.specs.SentLines.{CanBeRead, actor_along, law_at, number_in, way_along, wire_line, wire_lines, words_in}

-- the client's number is its place among the schedule's
before_key : (server : Addr) (lines : List ClientLine) (key : Key)
    → position_or_len (λ c. key_eq c.key key) (clients_of server lines) ≡ position_or_len (λ line. key_eq line.key key) lines
before_key server [] key = refl
before_key server (line ∷ lines) key = ap (λ n. if not (key_eq line.key key) then 1 + n else 0) (before_key server lines key)

place_of : (server : Addr) (lines : List ClientLine) (key : Key)
    → position (λ c. key_eq c.key key) (clients_of server lines) ≡ position (λ line. key_eq line.key key) lines
place_of server lines key =
    ap₂ (λ n len. if nat_lt n len then Some n else None) (before_key server lines key) (length-map lines (client_of server))

pub number_is : (schedule : Schedule) (key : Key) → number_in schedule.clients key ≡ number_of_client (clients_in schedule) key
number_is schedule key = ap (λ p. option_map_or (λ i. i + 1) p 0) (sym (place_of schedule.server schedule.clients key))

-- a line is written
pub line_is_written : (clients : List Client) (n : ℕ) (wire : Wire) (before after : List ℕ) → IsSome (words_in clients wire)
    → IfSome (words_in clients wire) (λ words. after ≡ before ++ line_of_packet n (way_along clients wire) words) → after ≡ before ++ wire_line clients n wire
line_is_written clients n wire before after can written = by_words (words_in clients wire) can written
  where
    by_words : (o : Option (List (List ℕ))) → IsSome o → IfSome o (λ words. after ≡ before ++ line_of_packet n (way_along clients wire) words)
        → after ≡ before ++ option_map_or (line_of_packet n (way_along clients wire)) o []
    by_words None can written = absurd (cc)
    by_words (Some words) can written = written

-- each of several is readable
pub wire_is_readable : (clients : List Client) (wires : List Wire) (i : ℕ) (wire : Wire) → i < length wires → wire ≡ get_or wires i wire → CanBeRead clients wires
    → IsSome (words_in clients wire)
wire_is_readable clients [] i wire within is all = absurd (omega (arith, within))
wire_is_readable clients (w ∷ wires) zero wire within is all = subst (λ v. IsSome (words_in clients v)) (sym is) all.0
wire_is_readable clients (w ∷ wires) (suc i) wire within is all = wire_is_readable clients wires i wire (omega (arith, within)) is all.1

-- the words of what can be written
words_of_message : (message : Message) → messages.IsSpellableBy Wide message
    → logged_words (messages.reading_by Wide (messages.spelling_by Wide message)) (marks.reading (messages.spelling_by Wide message)) ≡ Some (message_words message)
words_of_message message spelled = ap (λ r. logged_words r (marks.reading (messages.spelling_by Wide message))) (message_is_read message spelled)

pub words_are : (clients : List Client) (packet : Packet) → CanBeKept packet → words_in clients (kept_wire packet) ≡ Some (content_words packet)
unfolding content_words
words_are clients (To_server segment) has = rw (spelling_is_read segment has.0) refl
words_are clients (To_client segment) has = rw (spelling_is_read segment has.0) refl
words_are clients (To_logger message) has = words_of_message message has.0
words_are clients (From_logger message) has = words_of_message message has.0

way_is : (clients : List Client) (packet : Packet) → way_along clients (kept_wire packet) ≡ way_of clients packet
way_is clients (To_server segment) = refl
way_is clients (To_client segment) = refl
way_is clients (To_logger message) = refl
way_is clients (From_logger message) = refl

line_is : (clients : List Client) (n : ℕ) (packet : Packet) → CanBeKept packet → wire_line clients n (kept_wire packet) ≡ packet_line n (way_of clients packet) packet
unfolding packet_line
line_is clients n packet has = ap₂ (λ way words. option_map_or (line_of_packet n way) words []) (way_is clients packet) (words_are clients packet has)

pub lines_are : (clients : List Client) (n : ℕ) (sent : List Packet) → AllByRecursion CanBeKept sent → wire_lines clients n (map kept_wire sent) ≡ packet_lines clients n sent
lines_are clients n [] have = refl
lines_are clients n (packet ∷ sent) have = ap₂ ◌++◌ (line_is clients n packet have.0) (lines_are clients (n + 1) sent have.1)

pub can_be_read : (clients : List Client) (sent : List Packet) → AllByRecursion CanBeKept sent → CanBeRead clients (map kept_wire sent)
can_be_read clients [] have = tt
can_be_read clients (packet ∷ sent) have = (subst IsSome (sym (words_are clients packet have.0)) refl, can_be_read clients sent have.1)

-- whose turn an event is
law_is : (packet : Option Packet) → law_at (option_map kept_wire packet) ≡ receiver packet
law_is None = refl
law_is (Some (To_server segment)) = refl
law_is (Some (To_client segment)) = refl
law_is (Some (To_logger message)) = refl
law_is (Some (From_logger message)) = refl

numbered_law : (sent : List Packet) (n : ℕ) → law_at (wire_at (map kept_wire sent) n) ≡ receiver (packet_at sent n)
numbered_law sent n = ap law_at (wire_numbered sent n) ∙ law_is (packet_at sent n)

pub actor_is : (w : World) (event : Event) → actor_along (map kept_wire w.packets) event ≡ actor w event
actor_is w (events.Boot boot isn) = refl
actor_is w events.Crash = refl
actor_is w events.Tick = refl
actor_is w (events.Deliver number) = numbered_law w.packets number
actor_is w (events.Flip number bit) = numbered_law w.packets number
actor_is w (events.Begin client window) = refl
actor_is w (events.Send client from len) = refl
actor_is w (events.Fin client) = refl
actor_is w (events.Ack client window) = refl
actor_is w (events.Reset client) = refl
actor_is w (events.Stop part) = refl
