-- The world: clients, log, network and server, and what each event of a schedule does to them. A trace is a list of moments, newest first, each with the world
-- after it. That world is a witness: clients, log and packets are those that the events determine.
use Rattle.limits.specs.Limits.{longest_stream}
use Rattle.std.specs.Prelude.{◌≡◌, ℕ, Bool, true, zero, suc, ◌*◌, ◌<◌, ◌≤◌, ◌^◌, ◌==◌, ◌&&◌, not, map, Option, Some, None, Result, Ok, Err}
use Rattle.std.specs.Prelude.{option_map, is_some, List, [], ◌∷◌, ◌++◌, length, slice_get, if◌then◌else◌}
use Rattle.std.specs.List.{AllByRecursion, list_any}
use Rattle.std.specs.Option.{option_to_list}
use Rattle.ft_io.specs.declared.Addr.{Addr}
use Rattle.ft_io.specs.declared.Key.{Key}
use Rattle.ft_io.specs.Key.{key_eq}
use Rattle.tcp_rules.specs.Profile.{Profile, grammar_of}
use Rattle.seq_arith.specs.Packet.{Segment}
use Rattle.seq_arith.specs.Message.{Message}
use Rattle.seq_arith.specs.PacketGrammar as segments
use Rattle.seq_arith.specs.MessageGrammar as messages
use Rattle.seq_arith.specs.Damage.{flipped}
use Rattle.seq_arith.specs.declared.BadPacket.{BadPacket}
use Rattle.seq_arith.specs.declared.kinds.BadMsg.{BadMsg}
use Rattle.server_trait.specs.Service.{Machine, AreBytes}
use Rattle.ft_model.specs.Client.{Client, IsMove, received, new_client}
use Rattle.ft_model.specs.Log.{Log, empty_log, log_after, answer_to}
use Rattle.ft_model.specs.Network.{Packet, packet_at, destination_of}
use Rattle.ft_model.specs.Network.Packet.{To_server, To_client, To_logger, From_logger}
use Rattle.ft_model.specs.Wire.{wire_by, HasWireBy}
use Rattle.ft_model.specs.Node.{Node, Input, booted}
use Rattle.ft_model.specs.Node.Input.{Packet_comes, Message_comes, Noise_comes, Tick_comes}
use Rattle.ft_model.specs.Lawful.{LawfulTurn, hello}
use Rattle.ft_model.specs.declared.event.Event.{Event}
use Rattle.ft_model.specs.declared.event.Event.TheVariants.{Boot, Crash, Tick, Deliver, Flip, Begin, Send, Fin, Ack, Reset, Stop}

pub record World : Type 0 where
  pub server : Addr
  pub profile : Profile
  pub clients : List Client
  pub log : Log
  pub packets : List Packet  -- all that were ever sent, in order
  pub boot : ℕ  -- the largest boot number so far
  pub node : Option Node  -- the incarnation that is up

-- the client with a number, counted from 1
abbrev pub client_at : List Client → ℕ → Option Client
client_at clients zero = None
client_at clients (suc n) = slice_get clients n

abbrev pub with_client : Key → (Client → Client) → List Client → List Client
with_client key change clients = map (λ c. if key_eq c.key key then change c else c) clients

-- a server that is down sends nothing; one that is up takes a lawful turn
abbrev pub ServerTurn : {State : Type 0} → Machine State → Input → Option Node → List Packet → Option Node → Type 0
ServerTurn service input None sent after = (sent ≡ []) × (after ≡ None)
ServerTurn service input (Some node) sent after = (later : Node) × (after ≡ Some later) × LawfulTurn service node input sent later

-- the server takes its turn on what arrives
abbrev pub ServerMoves : {State : Type 0} → Machine State → Input → World → List Packet → World → Type 0
ServerMoves service input before sent after =
    ServerTurn service input before.node sent after.node × (after ≡ record before { node = after.node; packets = before.packets ++ sent })

-- a segment arrives at the client of a key. A client that receives sends nothing
abbrev pub ClientReceives : Key → Segment → World → List Packet → World → Type 0
ClientReceives key segment before sent after =
    (sent ≡ []) × (after ≡ record before { clients = with_client key (λ c. received c segment) before.clients; packets = before.packets ++ sent })

-- a message arrives at the log, which sends its answer and nothing else
abbrev pub LogReceives : Message → World → List Packet → World → Type 0
LogReceives message before sent after =
    (sent ≡ option_to_list (option_map From_logger (answer_to before.log message)))
    × (after ≡ record before { log = log_after before.log message; packets = before.packets ++ sent })

-- one packet reaches its addressee
abbrev pub Delivered : {State : Type 0} → Machine State → World → Packet → List Packet → World → Type 0
Delivered service before (To_server segment) sent after = ServerMoves service (Packet_comes segment) before sent after
Delivered service before (To_client segment) sent after = ClientReceives (destination_of segment) segment before sent after
Delivered service before (To_logger message) sent after = LogReceives message before sent after
Delivered service before (From_logger message) sent after = ServerMoves service (Message_comes message) before sent after

-- what can't be read is noise: the server takes a turn on it, and at a client or the log nothing happens
abbrev pub NothingHappens : World → List Packet → World → Type 0
NothingHappens before sent after = (sent ≡ []) × (after ≡ record before { packets = before.packets ++ sent })

abbrev pub segment_or_noise : Result Segment BadPacket → Input
segment_or_noise (Ok segment) = Packet_comes segment
segment_or_noise (Err why) = Noise_comes

abbrev pub message_or_noise : Result Message BadMsg → Input
message_or_noise (Ok message) = Message_comes message
message_or_noise (Err why) = Noise_comes

abbrev pub ClientReads : Key → Result Segment BadPacket → World → List Packet → World → Type 0
ClientReads key (Ok segment) before sent after = ClientReceives key segment before sent after
ClientReads key (Err why) before sent after = NothingHappens before sent after

abbrev pub LogReads : Result Message BadMsg → World → List Packet → World → Type 0
LogReads (Ok message) before sent after = LogReceives message before sent after
LogReads (Err why) before sent after = NothingHappens before sent after

-- these bytes reach the addressee of a packet in place of its own, and are read by the grammar of its direction. That of messages is the profile's
abbrev pub DeliveredAs : {State : Type 0} → Machine State → World → Packet → List ℕ → List Packet → World → Type 0
DeliveredAs service before (To_server segment) bytes sent after = ServerMoves service (segment_or_noise (segments.reading bytes)) before sent after
DeliveredAs service before (To_client segment) bytes sent after = ClientReads (destination_of segment) (segments.reading bytes) before sent after
DeliveredAs service before (To_logger message) bytes sent after = LogReads (messages.reading_by (grammar_of before.profile) bytes) before sent after
DeliveredAs service before (From_logger message) bytes sent after =
    ServerMoves service (message_or_noise (messages.reading_by (grammar_of before.profile) bytes)) before sent after

-- one bit of a packet is changed on its way. It is one of the packet's bits
pub record Flipped {State : Type 0} (service : Machine State) (before : World) (packet : Packet) (bit : ℕ) (sent : List Packet) (after : World) : Type 0 where
  pub wire : HasWireBy (grammar_of before.profile) packet
  pub within : bit < 8 * length (wire_by (grammar_of before.profile) packet).bytes
  pub comes : DeliveredAs service before packet (flipped bit (wire_by (grammar_of before.profile) packet).bytes) sent after

-- a packet of this world: it may be delivered next
abbrev pub WasSent : World → Packet → Type 0
WasSent w packet = (number : ℕ) × (packet_at w.packets number ≡ Some packet)

-- what may arrive at the server next: what was sent to it, noise, or a tick
abbrev pub MayCome : World → Input → Type 0
MayCome w (Packet_comes segment) = WasSent w (To_server segment)
MayCome w (Message_comes message) = WasSent w (From_logger message)
MayCome w Noise_comes = Unit {0}
MayCome w Tick_comes = Unit {0}

-- a client makes a move
pub record Moves (before : World) (number : ℕ) (sent : List Packet) (after : World) : Type 0 where
  pub client : Client
  pub segment : Segment
  pub later : Client
  pub is_there : client_at before.clients number ≡ Some client
  pub move : IsMove client segment later
  pub sent_is : sent ≡ To_server segment ∷ []
  pub after_is : after ≡ record before { clients = with_client client.key (λ _. later) before.clients; packets = before.packets ++ sent }

-- a new boot number is larger than all before, and has at most 64 bits
abbrev pub IsNextBoot : World → ℕ → Type 0
IsNextBoot w boot = (w.boot < boot) × (boot < 2 ^ 64)

-- what may happen: from the world before, by this event, with these packets sent, to the world after. Boot numbers rise, at most one server is up at a time,
-- and a server that crashes loses all its state. There is one log, and it never stops
abbrev pub Happens : {State : Type 0} → Machine State → World → Event → List Packet → World → Type 0
Happens service before (Boot boot isn) sent after =
    (before.node ≡ None) × IsNextBoot before boot × (sent ≡ hello (booted before.server before.profile boot isn))
    × (after ≡ record before { boot = boot; node = Some (booted before.server before.profile boot isn); packets = before.packets ++ sent })
Happens service before Crash sent after =
    (is_some before.node ≡ true) × (sent ≡ []) × (after ≡ record before { node = None; packets = before.packets ++ sent })
Happens service before Tick sent after = (is_some before.node ≡ true) × ServerMoves service Tick_comes before sent after
Happens service before (Deliver number) sent after =
    (packet : Packet) × (packet_at before.packets number ≡ Some packet) × Delivered service before packet sent after
Happens service before (Flip number bit) sent after =
    (packet : Packet) × (packet_at before.packets number ≡ Some packet) × Flipped service before packet bit sent after
Happens service before (Begin client window) sent after = Moves before client sent after
Happens service before (Send client from len) sent after = Moves before client sent after
Happens service before (Fin client) sent after = Moves before client sent after
Happens service before (Ack client window) sent after = Moves before client sent after
Happens service before (Reset client) sent after = Moves before client sent after
Happens service before (Stop part) sent after = ⊥

pub record Moment : Type 0 where
  pub event : Event
  pub sent : List Packet
  pub world : World

-- the world at the end of a trace
abbrev pub world_after : World → List Moment → World
world_after start [] = start
world_after start (moment ∷ earlier) = moment.world

-- a client's key differs from the server's address and from the keys of these clients
abbrev pub is_apart : Addr → Key → List Client → Bool
is_apart server key clients = not (key.ip == server.ip && key.port == server.port) && not (list_any (λ c. key_eq c.key key) clients)

-- the keys of the clients differ from one another and from the server's address
abbrev pub are_apart : Addr → List Client → Bool
are_apart server [] = true
are_apart server (c ∷ clients) = is_apart server c.key clients && are_apart server clients

-- a client before its first move: a packet can hold its address, port and number (RFC 791, 3.1; RFC 9293, 3.1), and its script consists of bytes and fits a
-- stream
pub record IsNewClient (server : Addr) (client : Client) : Type 0 where
  pub new : client ≡ new_client client.kind server client.key client.isn client.script
  pub ip : client.key.ip < 2 ^ 32
  pub port : client.key.port < 2 ^ 16
  pub number : client.isn < 2 ^ 32
  pub bytes : AreBytes client.script
  pub short : length client.script ≤ longest_stream

-- where a trace starts: a packet can hold the server's address and port, the clients are new and have keys of their own, the log is empty, nothing is sent, and
-- there is no server
pub record IsStart (w : World) : Type 0 where
  pub ip : w.server.ip < 2 ^ 32
  pub port : w.server.port < 2 ^ 16
  pub apart : are_apart w.server w.clients ≡ true
  pub clients : AllByRecursion (IsNewClient w.server) w.clients
  pub log : w.log ≡ empty_log
  pub packets : w.packets ≡ []
  pub boot : w.boot ≡ 0
  pub node : w.node ≡ None

-- Joint: every moment of a trace happens in the world after the earlier ones, from a start on. So each run of turns from a boot to the next crash is lawful for
-- what was delivered to it
abbrev pub Joint : {State : Type 0} → Machine State → World → List Moment → Type 0
Joint service start [] = IsStart start
Joint service start (moment ∷ earlier) = Joint service start earlier × Happens service (world_after start earlier) moment.event moment.sent moment.world

-- the events of a trace, oldest first
abbrev pub events_of : List Moment → List Event
events_of [] = []
events_of (moment ∷ earlier) = events_of earlier ++ moment.event ∷ []
