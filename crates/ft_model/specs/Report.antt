-- The report of a run: what was asked for, each event with the packets that it sent, and the state of clients and log at the end.
use Rattle.std.specs.Prelude.{ℕ, Bool, true, false, codes, ◌+◌, position, Option, None, Some, List, [], ◌∷◌, ◌++◌, length, map}
use Rattle.std.specs.List.{flat_map}
use Rattle.std.specs.Option.{option_map_or}
use Rattle.std.specs.Fmt.{decimal}
use Rattle.ft_io.specs.declared.Key.{Key}
use Rattle.tcp_rules.specs.declared.profile.Profile.{Profile}
use Rattle.tcp_rules.specs.declared.profile.Profile.TheVariants.{Plain, Wan}
use Rattle.ft_io.specs.Key.{key_eq}
use Rattle.seq_arith.specs.declared.options.Timestamps.{Timestamps}
use Rattle.seq_arith.specs.Packet.{Segment}
use Rattle.seq_arith.specs.Message.{Numbers, Kept, EntryHead, Part, Body, Message}
use Rattle.seq_arith.specs.Message.Body.{HelloMsg, SummaryMsg, ListMsg, EntryMsg, BytesMsg, PartMsg, CutsMsg, LensMsg, OpenMsg, OpenedMsg, DataMsg}
use Rattle.seq_arith.specs.Message.Body.{StableMsg, ReadMsg, ReadsMsg, DoneMsg, EndedMsg, StaleMsg, FullMsg}
use Rattle.ft_model.specs.Texts.{line, hex_text, list_text, address_text, key_text, flags_text, mss_text, bit_text, ending_text, way_text}
use Rattle.ft_model.specs.Texts.{service_text, script_text, phase_text}
use Rattle.ft_model.specs.Client.{Client}
use Rattle.ft_model.specs.Log.{Entry}
use Rattle.ft_model.specs.Network.{Packet, source_of, destination_of}
use Rattle.ft_model.specs.Network.Packet.{To_server, To_client, To_logger, From_logger}
use Rattle.ft_model.specs.Schedule.{clients_of}
use Rattle.ft_model.specs.World.{World, Moment, world_after}
use Rattle.ft_model.specs.Legal.{start_of}
use Rattle.ft_model.specs.declared.event.Event.{Event}
use Rattle.ft_model.specs.declared.event.Event.TheVariants.{Boot, Crash, Tick, Deliver, Flip, Begin, Send, Fin, Ack, Reset, Stop}
use Rattle.ft_model.specs.declared.phase.Phase.{Phase}
use Rattle.ft_model.specs.declared.way.Way.{Way}
use Rattle.ft_model.specs.declared.way.Way.TheVariants.{ClientToServer, ServerToClient, ServerToLogger, LoggerToServer}
use Rattle.ft_model.specs.declared.schedule.ClientLine.{ClientLine}
use Rattle.ft_model.specs.declared.schedule.Lasting.{Lasting}
use Rattle.ft_model.specs.declared.schedule.Schedule.{Schedule}

-- What was asked for: the lines of the schedule before its events, after the report's name and version.
unfoldable pub schedule_line : ℕ → ClientLine → List ℕ
schedule_line n asked = line (codes "client") (decimal n ∷ key_text asked.key ∷ decimal asked.isn ∷ script_text asked.script ∷ [])

-- the clients, numbered from n on
abbrev pub schedule_lines : ℕ → List ClientLine → List ℕ
schedule_lines n [] = []
schedule_lines n (asked ∷ others) = schedule_line n asked ++ schedule_lines (n + 1) others

-- the profile of the server, unless it is the plain one
abbrev pub profile_line : Profile → List ℕ
profile_line Plain = []
profile_line Wan = line (codes "profile") (codes "wan" ∷ [])

-- that there are two loggers
abbrev pub twin_line : Bool → List ℕ
twin_line true = line (codes "twin") []
twin_line false = []

-- that the server marks the log
abbrev pub marks_line : Option ℕ → List ℕ
marks_line None = []
marks_line (Some every) = line (codes "marks") (decimal every ∷ [])

-- that the server is one that lasts
abbrev pub lasting_line : Option Lasting → List ℕ
lasting_line None = []
lasting_line (Some waits) = line (codes "lasting") (decimal waits.wait ∷ decimal waits.silence ∷ [])

unfoldable pub header : Schedule → List ℕ
header schedule =
    line (codes "ftreplay") (codes "1" ∷ []) ++ (line (codes "service") (service_text schedule.service ∷ [])
    ++ (line (codes "server") (address_text schedule.server.ip schedule.server.port ∷ [])
    ++ (profile_line schedule.profile ++ (twin_line schedule.twin ++ (marks_line schedule.marks
    ++ (lasting_line schedule.lasting ++ schedule_lines 1 schedule.clients))))))

-- an event, as a schedule spells it
abbrev pub event_words : Event → List (List ℕ)
event_words (Boot boot isn) = codes "boot" ∷ decimal boot ∷ decimal isn ∷ []
event_words Crash = codes "crash" ∷ []
event_words Tick = codes "tick" ∷ []
event_words (Deliver packet) = codes "deliver" ∷ decimal packet ∷ []
event_words (Flip packet bit) = codes "flip" ∷ decimal packet ∷ decimal bit ∷ []
event_words (Begin client window) = codes "open" ∷ decimal client ∷ decimal window ∷ []
event_words (Send client from len) = codes "send" ∷ decimal client ∷ decimal from ∷ decimal len ∷ []
event_words (Fin client) = codes "fin" ∷ decimal client ∷ []
event_words (Ack client window) = codes "ack" ∷ decimal client ∷ decimal window ∷ []
event_words (Reset client) = codes "reset" ∷ decimal client ∷ []
event_words (Stop part) = codes "stop" ∷ decimal part ∷ []

unfoldable pub event_line : ℕ → Event → List ℕ
event_line n event = line (codes "event") (decimal n ∷ event_words event)

-- timestamps, if a segment has them: TSval and TSecr
abbrev pub timestamps_words : Option Timestamps → List (List ℕ)
timestamps_words None = []
timestamps_words (Some timestamps) = codes "ts" ∷ decimal timestamps.value ∷ decimal timestamps.echo ∷ []

-- a segment: its flags, then its other fields by name
abbrev pub segment_words : Segment → List (List ℕ)
segment_words s =
    flags_text s.head.flags ∷ codes "seq" ∷ decimal s.head.seq ∷ codes "ack" ∷ decimal s.head.ack ∷ codes "window" ∷ decimal s.head.window
    ∷ codes "mss" ∷ mss_text s.head.mss ∷ codes "data" ∷ hex_text s.payload ∷ timestamps_words s.head.timestamps

abbrev pub name_of : Body → List ℕ
name_of HelloMsg = codes "Hello"
name_of (SummaryMsg count) = codes "Summary"
name_of (ListMsg index) = codes "List"
name_of (EntryMsg index e) = codes "Entry"
name_of (BytesMsg key offset) = codes "Bytes"
name_of (PartMsg key offset bytes) = codes "Part"
name_of (CutsMsg key first) = codes "Cuts"
name_of (LensMsg key first lens) = codes "Lens"
name_of (OpenMsg n) = codes "Open"
name_of (OpenedMsg n) = codes "Opened"
name_of (DataMsg part) = codes "Data"
name_of (StableMsg k) = codes "Stable"
name_of (ReadMsg key index length) = codes "Read"
name_of (ReadsMsg k) = codes "Reads"
name_of (DoneMsg key) = codes "Done"
name_of (EndedMsg key) = codes "Ended"
name_of (StaleMsg newer) = codes "Stale"
name_of (FullMsg key) = codes "Full"

abbrev pub key_words : Key → List (List ℕ)
key_words key = codes "key" ∷ key_text key ∷ []

abbrev pub numbers_words : Numbers → List (List ℕ)
numbers_words n = codes "key" ∷ key_text n.key ∷ codes "cisn" ∷ decimal n.cisn ∷ codes "sisn" ∷ decimal n.sisn ∷ codes "mss" ∷ decimal n.mss ∷ []

abbrev pub kept_words : Kept → List (List ℕ)
kept_words k = codes "key" ∷ key_text k.key ∷ codes "length" ∷ decimal k.length ∷ codes "fin" ∷ bit_text k.fin ∷ codes "reads" ∷ decimal k.reads ∷ []

abbrev pub entry_words : EntryHead → List (List ℕ)
entry_words e =
    codes "key" ∷ key_text e.key ∷ codes "cisn" ∷ decimal e.cisn ∷ codes "sisn" ∷ decimal e.sisn ∷ codes "mss" ∷ decimal e.mss ∷ codes "length"
    ∷ decimal e.length
    ∷ codes "fin" ∷ bit_text e.fin ∷ codes "done" ∷ bit_text e.done ∷ codes "reads" ∷ decimal e.reads ∷ codes "acked" ∷ decimal e.acked ∷ []

abbrev pub part_words : Part → List (List ℕ)
part_words p =
    codes "key" ∷ key_text p.key ∷ codes "offset" ∷ decimal p.offset ∷ codes "acked" ∷ decimal p.acked ∷ codes "fin" ∷ ending_text p.fin p.more
    ∷ codes "bytes" ∷ hex_text p.bytes ∷ []

abbrev pub read_words : Key → ℕ → ℕ → List (List ℕ)
read_words key index length = codes "key" ∷ key_text key ∷ codes "index" ∷ decimal index ∷ codes "length" ∷ decimal length ∷ []

-- the fields of a body by name, in the order in which a message holds them
abbrev pub field_words : Body → List (List ℕ)
field_words HelloMsg = []
field_words (SummaryMsg count) = codes "count" ∷ decimal count ∷ []
field_words (ListMsg index) = codes "index" ∷ decimal index ∷ []
field_words (EntryMsg index e) = codes "index" ∷ decimal index ∷ entry_words e
field_words (BytesMsg key offset) = codes "key" ∷ key_text key ∷ codes "offset" ∷ decimal offset ∷ []
field_words (PartMsg key offset bytes) = codes "key" ∷ key_text key ∷ codes "offset" ∷ decimal offset ∷ codes "bytes" ∷ hex_text bytes ∷ []
field_words (CutsMsg key first) = codes "key" ∷ key_text key ∷ codes "first" ∷ decimal first ∷ []
field_words (LensMsg key first lens) = codes "key" ∷ key_text key ∷ codes "first" ∷ decimal first ∷ codes "lens" ∷ list_text lens ∷ []
field_words (OpenMsg n) = numbers_words n
field_words (OpenedMsg n) = numbers_words n
field_words (DataMsg part) = part_words part
field_words (StableMsg k) = kept_words k
field_words (ReadMsg key index length) = read_words key index length
field_words (ReadsMsg k) = kept_words k
field_words (DoneMsg key) = key_words key
field_words (EndedMsg key) = key_words key
field_words (StaleMsg newer) = codes "newer" ∷ decimal newer ∷ []
field_words (FullMsg key) = key_words key

unfoldable pub message_words : Message → List (List ℕ)
message_words m = name_of m.body ∷ codes "boot" ∷ decimal m.boot ∷ field_words m.body

unfoldable pub content_words : Packet → List (List ℕ)
content_words (To_server segment) = segment_words segment
content_words (To_client segment) = segment_words segment
content_words (To_logger message) = message_words message
content_words (From_logger message) = message_words message

-- What is sent between two loggers: a message that the head forwards, with its number; and the number up to which the tail has applied such messages
unfoldable pub forward_words : ℕ → Message → List (List ℕ)
forward_words number message = codes "Forward" ∷ codes "number" ∷ decimal number ∷ message_words message

unfoldable pub got_words : ℕ → List (List ℕ)
got_words number = codes "Got" ∷ codes "number" ∷ decimal number ∷ []

-- the line of a packet: its number, its direction and its content
abbrev pub line_of_packet : ℕ → Way → List (List ℕ) → List ℕ
line_of_packet n way content = line (codes "packet") (decimal n ∷ way_text way ∷ content)

-- a packet with its number and its direction
unfoldable pub packet_line : ℕ → Way → Packet → List ℕ
packet_line n way packet = line_of_packet n way (content_words packet)

-- the number of a client: its place, counted from 1; 0 for none
abbrev pub number_of_client : List Client → Key → ℕ
number_of_client clients key = option_map_or (λ i. i + 1) (position (λ c. key_eq c.key key) clients) 0

-- a packet's direction. A segment names its client by the address that isn't the server's
abbrev pub way_of : List Client → Packet → Way
way_of clients (To_server segment) = ClientToServer (number_of_client clients (source_of segment))
way_of clients (To_client segment) = ServerToClient (number_of_client clients (destination_of segment))
way_of clients (To_logger message) = ServerToLogger
way_of clients (From_logger message) = LoggerToServer

-- packets, numbered from n on
abbrev pub packet_lines : List Client → ℕ → List Packet → List ℕ
packet_lines clients n [] = []
packet_lines clients n (packet ∷ others) = packet_line n (way_of clients packet) packet ++ packet_lines clients (n + 1) others

-- how many packets a trace has sent
abbrev pub packet_count : List Moment → ℕ
packet_count [] = 0
packet_count (moment ∷ earlier) = packet_count earlier + length moment.sent

-- each event of a trace with its packets. Events are numbered from 1, and so are packets, over the whole run. A trace has its newest moment first
abbrev pub event_lines : List Client → List Moment → List ℕ
event_lines clients [] = []
event_lines clients (moment ∷ earlier) =
    event_lines clients earlier ++ (event_line (length earlier + 1) moment.event ++ packet_lines clients (packet_count earlier + 1) moment.sent)

-- a client's number, its phase and what it has accepted from the server
unfoldable pub phase_line : ℕ → Phase → List ℕ → List ℕ
phase_line n phase accepted = line (codes "client") (decimal n ∷ phase_text phase ∷ codes "accepted" ∷ decimal (length accepted) ∷ hex_text accepted ∷ [])

abbrev pub client_line : ℕ → Client → List ℕ
client_line n client = phase_line n client.phase client.accepted

-- clients, numbered from n on
abbrev pub client_lines : ℕ → List Client → List ℕ
client_lines n [] = []
client_lines n (client ∷ others) = client_line n client ++ client_lines (n + 1) others

-- a logged connection: bytes and FIN of the client, acknowledged units of output, whether it is done, and the lengths of its reads
unfoldable pub entry_line : Key → ℕ → Bool → ℕ → Bool → List ℕ → List ℕ
entry_line key bytes fin acknowledged done lengths =
    line (codes "log") (key_text key ∷ codes "length" ∷ decimal bytes ∷ codes "fin" ∷ bit_text fin ∷ codes "acked" ∷ decimal acknowledged
    ∷ codes "done" ∷ bit_text done ∷ codes "reads" ∷ list_text lengths ∷ [])

abbrev pub log_line : Entry → List ℕ
log_line e = entry_line e.key (length e.bytes) e.fin e.acknowledged e.done e.lengths

-- the last line, with the number of events
unfoldable pub end_line : ℕ → List ℕ
end_line n = line (codes "end") (decimal n ∷ [])

-- the state of a world after n events
abbrev pub closing_lines : World → ℕ → List ℕ
closing_lines w n = client_lines 1 w.clients ++ (flat_map log_line w.log.entries ++ end_line n)

-- The report of a trace of a schedule.
abbrev pub report : Schedule → List Moment → List ℕ
report schedule trace =
    header schedule
    ++ (event_lines (clients_of schedule.server schedule.clients) trace ++ closing_lines (world_after (start_of schedule) trace) (length trace))

-- what a trace says of each turn: the event, and the packets that were sent. The worlds alongside them are witnesses
abbrev pub turns_of : List Moment → List (Event × List Packet)
turns_of trace = map (λ moment. (moment.event, moment.sent)) trace
