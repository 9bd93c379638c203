-- The world with marks: clients and network as without them, a log with marks, and a server that marks.
use Rattle.std.specs.Prelude.{◌≡◌, ℕ, zero, suc, ◌<◌, ◌*◌, length, map, Result, Ok, Err, Option, Some, None, option_map, is_some, true, List, [], ◌∷◌}
use Rattle.std.specs.Prelude.{◌++◌, slice_get}
use Rattle.std.specs.Option.{option_to_list, option_map_or}
use Rattle.ft_io.specs.declared.Addr.{Addr}
use Rattle.tcp_rules.specs.Profile.{Profile, grammar_of}
use Rattle.seq_arith.specs.declared.kinds.Grammar.{Grammar}
use Rattle.seq_arith.specs.Damage.{flipped}
use Rattle.seq_arith.specs.Mark.{MarkBody, MarkMessage}
use Rattle.seq_arith.specs.Mark.MarkBody.{HeldMsg}
use Rattle.seq_arith.specs.Message.{Message}
use Rattle.seq_arith.specs.PacketGrammar as segments
use Rattle.seq_arith.specs.MessageGrammar as messages
use Rattle.seq_arith.specs.MarkGrammar as marks
use Rattle.seq_arith.specs.declared.kinds.BadMsg.{BadMsg}
use Rattle.seq_arith.specs.declared.mark.BadMark.{BadMark}
use Rattle.ft_model.specs.Client.{Client}
use Rattle.ft_model.specs.Log.{Log, entry_of}
use Rattle.ft_model.specs.Network.{Packet, destination_of}
use Rattle.ft_model.specs.Network.Packet.{To_server, To_client, To_logger, From_logger}
use Rattle.ft_model.specs.Wire.{wire_by, HasWireBy}
use Rattle.ft_model.specs.Node.Input.{Packet_comes, Message_comes, Noise_comes, Tick_comes}
use Rattle.ft_model.specs.Node.{booted}
use Rattle.ft_model.specs.Lawful.{hello}
use Rattle.ft_model.specs.World.{World, Moment, IsStart, IsNextBoot, ClientReceives, ClientReads, Happens, segment_or_noise}
use Rattle.ft_model.specs.declared.event.Event.{Event}
use Rattle.ft_model.specs.declared.event.Event.TheVariants.{Boot, Crash, Tick, Deliver, Flip}
use Rattle.mark_laws.specs.Front.{bytes_below, lengths_below}
use Rattle.mark_laws.specs.MarkedLog.{MarkedLog, AnyMessage, nothing_logged, after_mark, after_message, answer_above, answer_to_mark}
use Rattle.mark_laws.specs.MarkedLog.AnyMessage.{About_mark, Of_log}
use Rattle.mark_laws.specs.Marking.{Outgoing}
use Rattle.mark_laws.specs.Marking.Outgoing.{Plain, Mark_to_logger}
use Rattle.mark_laws.specs.MarkedNode.{Marker, MarkedNode, MarkedInput, booted_to_mark, LawfulMarkedTurn}
use Rattle.mark_laws.specs.MarkedNode.MarkedInput.{Plain_comes, Mark_comes}

-- What was sent: a packet as without marks, or a message about marks to the logger or from it
pub data Parcel : Type 0 where
  Usual : Packet → Parcel
  Mark_sent : MarkMessage → Parcel
  Mark_answered : MarkMessage → Parcel

pub record MarkedWorld : Type 0 where
  pub server : Addr
  pub profile : Profile
  pub clients : List Client
  pub log : MarkedLog
  pub parcels : List Parcel  -- all that were ever sent, in order
  pub boot : ℕ
  pub node : Option MarkedNode

-- what was sent without the messages about marks
abbrev pub usual : List Parcel → List Packet
usual [] = []
usual (Usual packet ∷ sent) = packet ∷ usual sent
usual (Mark_sent message ∷ sent) = usual sent
usual (Mark_answered message ∷ sent) = usual sent

-- the world without the marks
abbrev pub seen : MarkedWorld → World
seen w = record {
  server = w.server;
  profile = w.profile;
  clients = w.clients;
  log = w.log.log;
  packets = usual w.parcels;
  boot = w.boot;
  node = option_map (λ n. n.plain) w.node;
}

-- the parcel with a number, counted from 1
abbrev pub parcel_at : List Parcel → ℕ → Option Parcel
parcel_at parcels zero = None
parcel_at parcels (suc n) = slice_get parcels n

abbrev pub parcel_of : Outgoing → Parcel
parcel_of (Plain packet) = Usual packet
parcel_of (Mark_to_logger message) = Mark_sent message

-- the log's answer
abbrev pub answered_as : AnyMessage → Parcel
answered_as (Of_log message) = Usual (From_logger message)
answered_as (About_mark message) = Mark_answered message

-- what happens only to clients happens as without marks
abbrev pub Elsewhere : (World → List Packet → World → Type 0) → MarkedWorld → List Parcel → MarkedWorld → Type 0
Elsewhere Goes before sent after =
    (packets : List Packet) × (sent ≡ map Usual packets) × Goes (seen before) packets (seen after)
    × (after ≡ record before { clients = after.clients; parcels = before.parcels ++ sent })

-- what is below a mark that the log reports in a Held: the beginning of its entry
abbrev pub bytes_held : Log → MarkBody → List ℕ
bytes_held log (HeldMsg key m) = option_map_or (bytes_below m) (entry_of key log) []
bytes_held log _ = []

abbrev pub lengths_held : Log → MarkBody → List ℕ
lengths_held log (HeldMsg key m) = option_map_or (lengths_below m) (entry_of key log) []
lengths_held log _ = []

abbrev pub bytes_reported : Log → MarkedInput → List ℕ
bytes_reported log (Mark_comes message) = bytes_held log message.body
bytes_reported log (Plain_comes input) = []

abbrev pub lengths_reported : Log → MarkedInput → List ℕ
lengths_reported log (Mark_comes message) = lengths_held log message.body
lengths_reported log (Plain_comes input) = []

-- the server takes its turn on what arrives. A server that is down does nothing
abbrev pub ServerTurn : {State : Type 0} → Marker State → MarkedInput → Option MarkedNode → MarkedWorld → List Parcel → MarkedWorld → Type 0
ServerTurn by input None before sent after = (sent ≡ []) × (after ≡ record before { parcels = before.parcels ++ sent })
ServerTurn by input (Some node) before sent after =
    (later : MarkedNode) × (out : List Outgoing)
    × LawfulMarkedTurn by (bytes_reported before.log.log input) (lengths_reported before.log.log input) node input out later
    × (sent ≡ map parcel_of out) × (after ≡ record before { node = Some later; parcels = before.parcels ++ sent })

abbrev pub ServerMoves : {State : Type 0} → Marker State → MarkedInput → MarkedWorld → List Parcel → MarkedWorld → Type 0
ServerMoves by input before sent after = ServerTurn by input before.node before sent after

-- a message arrives at the log with marks, which sends its answer and nothing else
abbrev pub LogReceives : AnyMessage → MarkedWorld → List Parcel → MarkedWorld → Type 0
LogReceives (Of_log message) before sent after =
    (sent ≡ map Usual (option_to_list (option_map From_logger (answer_above before.log message))))
    × (after ≡ record before { log = after_message before.log message; parcels = before.parcels ++ sent })
LogReceives (About_mark message) before sent after =
    (sent ≡ map answered_as (option_to_list (answer_to_mark before.log message)))
    × (after ≡ record before { log = after_mark before.log message; parcels = before.parcels ++ sent })

-- a parcel reaches its addressee
abbrev pub ParcelComes : {State : Type 0} → Marker State → Parcel → MarkedWorld → List Parcel → MarkedWorld → Type 0
ParcelComes by (Usual (To_server segment)) before sent after = ServerMoves by (Plain_comes (Packet_comes segment)) before sent after
ParcelComes by (Usual (To_client segment)) before sent after = Elsewhere (ClientReceives (destination_of segment) segment) before sent after
ParcelComes by (Usual (To_logger message)) before sent after = LogReceives (Of_log message) before sent after
ParcelComes by (Usual (From_logger message)) before sent after = ServerMoves by (Plain_comes (Message_comes message)) before sent after
ParcelComes by (Mark_sent message) before sent after = LogReceives (About_mark message) before sent after
ParcelComes by (Mark_answered message) before sent after = ServerMoves by (Mark_comes message) before sent after

-- Bytes with a changed bit. How messages are written depends on the profile; those about marks have one grammar

abbrev pub bytes_of : Grammar → Parcel → List ℕ
bytes_of grammar (Usual packet) = (wire_by grammar packet).bytes
bytes_of grammar (Mark_sent message) = marks.spelling message
bytes_of grammar (Mark_answered message) = marks.spelling message

-- a parcel can be written as bytes, and a message about marks is read back as it was sent
abbrev pub CanBeRead : Grammar → Parcel → Type 0
CanBeRead grammar (Usual packet) = HasWireBy grammar packet
CanBeRead grammar (Mark_sent message) = marks.reading (marks.spelling message) ≡ Ok message
CanBeRead grammar (Mark_answered message) = marks.reading (marks.spelling message) ≡ Ok message

-- what bytes say to the logger or to the server: a message, one about marks, or nothing
abbrev pub either_said : Result Message BadMsg → Result MarkMessage BadMark → Option AnyMessage
either_said (Ok message) _ = Some (Of_log message)
either_said (Err why) (Ok message) = Some (About_mark message)
either_said (Err why) (Err other) = None

abbrev pub said_by : Grammar → List ℕ → Option AnyMessage
said_by grammar bytes = either_said (messages.reading_by grammar bytes) (marks.reading bytes)

abbrev pub input_of : Option AnyMessage → MarkedInput
input_of (Some (Of_log message)) = Plain_comes (Message_comes message)
input_of (Some (About_mark message)) = Mark_comes message
input_of None = Plain_comes Noise_comes

abbrev pub LogReads : Option AnyMessage → MarkedWorld → List Parcel → MarkedWorld → Type 0
LogReads (Some message) before sent after = LogReceives message before sent after
LogReads None before sent after = (sent ≡ []) × (after ≡ record before { parcels = before.parcels ++ sent })

-- these bytes reach the addressee of a parcel in place of its own
abbrev pub ComesAs : {State : Type 0} → Marker State → Parcel → List ℕ → MarkedWorld → List Parcel → MarkedWorld → Type 0
ComesAs by (Usual (To_server segment)) bytes before sent after = ServerMoves by (Plain_comes (segment_or_noise (segments.reading bytes))) before sent after
ComesAs by (Usual (To_client segment)) bytes before sent after = Elsewhere (ClientReads (destination_of segment) (segments.reading bytes)) before sent after
ComesAs by (Usual (To_logger message)) bytes before sent after = LogReads (said_by (grammar_of before.profile) bytes) before sent after
ComesAs by (Usual (From_logger message)) bytes before sent after = ServerMoves by (input_of (said_by (grammar_of before.profile) bytes)) before sent after
ComesAs by (Mark_sent message) bytes before sent after = LogReads (said_by (grammar_of before.profile) bytes) before sent after
ComesAs by (Mark_answered message) bytes before sent after = ServerMoves by (input_of (said_by (grammar_of before.profile) bytes)) before sent after

-- a parcel arrives with one of its bits changed
pub record FlippedTo {State : Type 0} (by : Marker State) (parcel : Parcel) (bit : ℕ) (before : MarkedWorld) (sent : List Parcel)
    (after : MarkedWorld) : Type 0 where
  pub read : CanBeRead (grammar_of before.profile) parcel
  pub within : bit < 8 * length (bytes_of (grammar_of before.profile) parcel)
  pub comes : ComesAs by parcel (flipped bit (bytes_of (grammar_of before.profile) parcel)) before sent after

-- What may happen: what may happen without marks, but by a server and a log with marks
abbrev pub MarkedHappens : {State : Type 0} → Marker State → MarkedWorld → Event → List Parcel → MarkedWorld → Type 0
MarkedHappens by before (Boot boot isn) sent after =
    (before.node ≡ None) × IsNextBoot (seen before) boot × (sent ≡ map Usual (hello (booted before.server before.profile boot isn)))
    × (after ≡ record before { boot = boot; node = Some (booted_to_mark before.server before.profile boot isn); parcels = before.parcels ++ sent })
MarkedHappens by before Crash sent after =
    (is_some before.node ≡ true) × (sent ≡ []) × (after ≡ record before { node = None; parcels = before.parcels ++ sent })
MarkedHappens by before Tick sent after = (is_some before.node ≡ true) × ServerMoves by (Plain_comes Tick_comes) before sent after
MarkedHappens by before (Deliver number) sent after =
    (parcel : Parcel) × (parcel_at before.parcels number ≡ Some parcel) × ParcelComes by parcel before sent after
MarkedHappens by before (Flip number bit) sent after =
    (parcel : Parcel) × (parcel_at before.parcels number ≡ Some parcel) × FlippedTo by parcel bit before sent after
MarkedHappens by before event sent after = Elsewhere (λ w. Happens by.service w event) before sent after

pub record MarkedMoment : Type 0 where
  pub event : Event
  pub sent : List Parcel
  pub world : MarkedWorld

abbrev pub marked_after : MarkedWorld → List MarkedMoment → MarkedWorld
marked_after start [] = start
marked_after start (moment ∷ earlier) = moment.world

pub record IsMarkedStart (w : MarkedWorld) : Type 0 where
  pub start : IsStart (seen w)
  pub log : w.log ≡ nothing_logged
  pub parcels : w.parcels ≡ []
  pub node : w.node ≡ None

-- a joint trace with marks, newest moment first
abbrev pub MarkedJoint : {State : Type 0} → Marker State → MarkedWorld → List MarkedMoment → Type 0
MarkedJoint by start [] = IsMarkedStart start
MarkedJoint by start (moment ∷ earlier) = MarkedJoint by start earlier × MarkedHappens by (marked_after start earlier) moment.event moment.sent moment.world

-- a trace without its marks
abbrev pub plain_moment : MarkedMoment → Moment
plain_moment moment = record { event = moment.event; sent = usual moment.sent; world = seen moment.world }

abbrev pub plain_trace : List MarkedMoment → List Moment
plain_trace trace = map plain_moment trace
