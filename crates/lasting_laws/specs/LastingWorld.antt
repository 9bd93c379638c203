-- The world of a schedule whose server lasts: clients that may come to one address one after another, a log whose entries may be recycled, the network, and the
-- server. Whatever is sent keeps its number. When an entry is recycled, its client is gone, and what is under way of its connection is lost (RFC 9293, 3.4.2).
use Rattle.std.specs.Prelude.{◌≡◌, ℕ, zero, suc, ◌&&◌, ◌||◌, not, map, Bool, true, false, Option, Some, None, option_map, is_none, Result, Ok, Err}
use Rattle.std.specs.Prelude.{List, [], ◌∷◌, ◌++◌, slice_get, if◌then◌else◌}
use Rattle.std.specs.Option.{option_to_list}
use Rattle.ft_io.specs.declared.Addr.{Addr}
use Rattle.ft_io.specs.declared.Key.{Key}
use Rattle.ft_io.specs.Key.{key_eq}
use Rattle.tcp_rules.specs.Profile.{Profile, grammar_of}
use Rattle.seq_arith.specs.Damage.{flipped}
use Rattle.seq_arith.specs.Message.{Message}
use Rattle.seq_arith.specs.Packet.{Segment}
use Rattle.seq_arith.specs.PacketGrammar as segments
use Rattle.seq_arith.specs.MessageGrammar as messages
use Rattle.seq_arith.specs.declared.BadPacket.{BadPacket}
use Rattle.seq_arith.specs.declared.kinds.BadMsg.{BadMsg}
use Rattle.seq_arith.specs.declared.kinds.Grammar.{Grammar}
use Rattle.server_trait.specs.Service.{Machine}
use Rattle.ft_model.specs.Client.{Client, Move, is_new, received, move_asked, segment_of, moved, window_of}
use Rattle.ft_model.specs.Growth.{logged_lengths}
use Rattle.ft_model.specs.Lawful.{hello}
use Rattle.ft_model.specs.Log.{Log, Entry, log_after, answer_to, entry_of}
use Rattle.ft_model.specs.Network.{Packet, destination_of}
use Rattle.ft_model.specs.Network.Packet.{To_server, To_client, To_logger, From_logger}
use Rattle.ft_model.specs.Node.{booted}
use Rattle.ft_model.specs.Node.Input.{Packet_comes, Message_comes, Noise_comes, Tick_comes}
use Rattle.ft_model.specs.Wire.{wire_by}
use Rattle.ft_model.specs.World.{segment_or_noise}
use Rattle.ft_model.specs.declared.event.Event.{Event}
use Rattle.ft_model.specs.declared.event.Event.TheVariants.{Boot, Crash, Tick, Deliver, Flip, Begin, Send, Fin, Ack, Reset, Stop}
use Rattle.long_laws.specs.ForgetGrammar as forgets
use Rattle.long_laws.specs.Forgetting.{ForgetMessage, ForgetAnswer, named_of, after_forget, answer_to_forget}
use Rattle.long_laws.specs.Forgetting.ForgetAnswer.{About_forgetting, Of_log}
use Rattle.long_laws.specs.LongTrace.{concerns}
use Rattle.long_laws.specs.QuarantineWorld.{recycled_by}
use Rattle.lasting_laws.specs.LastingTurn.{Patience, LastingNode, LastingInput, LastingSent, LastingTurn, booted_to_last}
use Rattle.lasting_laws.specs.LastingTurn.LastingInput.{Usual_comes, Forget_comes}

-- What was sent: a packet as without forgetting, Forget to the logger, or Forgotten from it
pub data Parcel : Type 0 where
  Usual : Packet → Parcel
  Forget_sent : ForgetMessage → Parcel
  Forgotten_sent : ForgetMessage → Parcel

-- a parcel under way, or lost for good
pub record Sent : Type 0 where
  pub parcel : Parcel
  pub lost : Bool

-- a client of the schedule. Once it is gone: the lengths of the reads that its entry had when that was recycled
pub record Guest : Type 0 where
  pub client : Client
  pub gone : Option (List ℕ)

pub record LastingWorld : Type 0 where
  pub server : Addr
  pub profile : Profile
  pub patience : Patience
  pub guests : List Guest  -- by number
  pub log : Log
  pub recycled : List Entry  -- what was recycled, in this order
  pub sent : List Sent  -- all that was ever sent, in order
  pub boot : ℕ
  pub node : Option LastingNode

-- how server and log write their messages
abbrev pub grammar_in : LastingWorld → Grammar
grammar_in w = grammar_of w.profile

-- A client has come to its address with its first move. The one that is there has come and isn't gone
abbrev pub has_come : Guest → Bool
has_come g = not (is_new g.client.phase)

abbrev pub is_present : Guest → Bool
is_present g = has_come g && is_none g.gone

abbrev pub is_there : Key → Guest → Bool
is_there key g = key_eq g.client.key key && is_present g

-- what is sent is under way
abbrev pub under_way : List Parcel → List Sent
under_way parcels = map (λ parcel. record { parcel = parcel; lost = false }) parcels

abbrev pub with_sent : List Parcel → LastingWorld → LastingWorld
with_sent parcels w = record w { sent = w.sent ++ under_way parcels }

-- the server takes its turn on what arrives. A server that is down does nothing
abbrev pub parcels_of : LastingSent → List Parcel
parcels_of out = map Usual out.packets ++ map Forget_sent out.forgets

abbrev pub ServerTurn : {State : Type 0} → Machine State → LastingInput → Option LastingNode → LastingWorld → List Parcel → LastingWorld → Type 0
ServerTurn service input None before parcels after = (parcels ≡ []) × (after ≡ before)
ServerTurn service input (Some node) before parcels after =
    (later : LastingNode) × (out : LastingSent) × LastingTurn service before.patience node input out later × (parcels ≡ parcels_of out)
    × (after ≡ with_sent parcels (record before { node = Some later }))

abbrev pub ServerMoves : {State : Type 0} → Machine State → LastingInput → LastingWorld → List Parcel → LastingWorld → Type 0
ServerMoves service input before parcels after = ServerTurn service input before.node before parcels after

-- a segment arrives at the client that is at its address
abbrev pub received_by : Key → Segment → Guest → Guest
received_by key segment g = if is_there key g then record g { client = received g.client segment } else g

abbrev pub ClientReceives : Key → Segment → LastingWorld → List Parcel → LastingWorld → Type 0
ClientReceives key segment before parcels after = (parcels ≡ []) × (after ≡ record before { guests = map (received_by key segment) before.guests })

-- a message arrives at the log, which sends its answer and nothing else
abbrev pub LogReceives : Message → LastingWorld → List Parcel → LastingWorld → Type 0
LogReceives message before parcels after =
    (parcels ≡ map Usual (option_to_list (option_map From_logger (answer_to before.log message))))
    × (after ≡ with_sent parcels (record before { log = log_after before.log message }))

-- The log recycles the entry of a key: the client that is there is gone, and all parcels so far of its connection are lost, those about forgetting too
abbrev pub parcel_concerns : Key → Parcel → Bool
parcel_concerns key (Usual packet) = concerns key packet
parcel_concerns key (Forget_sent message) = key_eq (named_of message.body).key key
parcel_concerns key (Forgotten_sent message) = key_eq (named_of message.body).key key

abbrev pub lost_with : Key → Sent → Sent
lost_with key s = record s { lost = s.lost || parcel_concerns key s.parcel }

abbrev pub gone_from : Key → List ℕ → Guest → Guest
gone_from key lengths g = if is_there key g then record g { gone = Some lengths } else g

abbrev pub with_recycled : Option Key → LastingWorld → LastingWorld
with_recycled (Some key) w = record w {
  guests = map (gone_from key (logged_lengths key w.log)) w.guests;
  recycled = w.recycled ++ option_to_list (entry_of key w.log);
  sent = map (lost_with key) w.sent;
}
with_recycled None w = w

-- a message about forgetting arrives at the log
abbrev pub answer_parcel : ForgetAnswer → Parcel
answer_parcel (About_forgetting message) = Forgotten_sent message
answer_parcel (Of_log message) = Usual (From_logger message)

abbrev pub LogForgets : ForgetMessage → LastingWorld → List Parcel → LastingWorld → Type 0
LogForgets message before parcels after =
    (parcels ≡ map answer_parcel (option_to_list (answer_to_forget before.log message)))
    × (after ≡ with_sent parcels (record (with_recycled (recycled_by message before.log) before) { log = after_forget before.log message }))

-- a parcel reaches its addressee
abbrev pub ParcelComes : {State : Type 0} → Machine State → Parcel → LastingWorld → List Parcel → LastingWorld → Type 0
ParcelComes service (Usual (To_server segment)) before parcels after = ServerMoves service (Usual_comes (Packet_comes segment)) before parcels after
ParcelComes service (Usual (To_client segment)) before parcels after = ClientReceives (destination_of segment) segment before parcels after
ParcelComes service (Usual (To_logger message)) before parcels after = LogReceives message before parcels after
ParcelComes service (Usual (From_logger message)) before parcels after = ServerMoves service (Usual_comes (Message_comes message)) before parcels after
ParcelComes service (Forget_sent message) before parcels after = LogForgets message before parcels after
ParcelComes service (Forgotten_sent message) before parcels after = ServerMoves service (Forget_comes message) before parcels after

-- Bytes with a changed bit. What they say to the logger or to the server, in their grammar: a message, one about forgetting, or nothing
abbrev pub bytes_of : Grammar → Parcel → List ℕ
bytes_of grammar (Usual packet) = (wire_by grammar packet).bytes
bytes_of grammar (Forget_sent message) = forgets.spelling message
bytes_of grammar (Forgotten_sent message) = forgets.spelling message

pub data Said : Type 0 where
  Says : Message → Said
  Says_of_forgetting : ForgetMessage → Said
  Says_nothing : Said

abbrev pub either_said : Result Message BadMsg → Result ForgetMessage BadMsg → Said
either_said (Ok message) _ = Says message
either_said (Err why) (Ok message) = Says_of_forgetting message
either_said (Err why) (Err other) = Says_nothing

abbrev pub said_by : Grammar → List ℕ → Said
said_by grammar bytes = either_said (messages.reading_by grammar bytes) (forgets.reading bytes)

abbrev pub said_to_server : Said → LastingInput
said_to_server (Says message) = Usual_comes (Message_comes message)
said_to_server (Says_of_forgetting message) = Forget_comes message
said_to_server Says_nothing = Usual_comes Noise_comes

abbrev pub NothingHappens : LastingWorld → List Parcel → LastingWorld → Type 0
NothingHappens before parcels after = (parcels ≡ []) × (after ≡ before)

abbrev pub LogReads : Said → LastingWorld → List Parcel → LastingWorld → Type 0
LogReads (Says message) before parcels after = LogReceives message before parcels after
LogReads (Says_of_forgetting message) before parcels after = LogForgets message before parcels after
LogReads Says_nothing before parcels after = NothingHappens before parcels after

abbrev pub ClientReads : Key → Result Segment BadPacket → LastingWorld → List Parcel → LastingWorld → Type 0
ClientReads key (Ok segment) before parcels after = ClientReceives key segment before parcels after
ClientReads key (Err why) before parcels after = NothingHappens before parcels after

-- these bytes reach the addressee of a parcel in place of its own
abbrev pub ComesAs : {State : Type 0} → Machine State → Parcel → List ℕ → LastingWorld → List Parcel → LastingWorld → Type 0
ComesAs service (Usual (To_server segment)) bytes before parcels after =
    ServerMoves service (Usual_comes (segment_or_noise (segments.reading bytes))) before parcels after
ComesAs service (Usual (To_client segment)) bytes before parcels after = ClientReads (destination_of segment) (segments.reading bytes) before parcels after
ComesAs service (Usual (To_logger message)) bytes before parcels after = LogReads (said_by (grammar_in before) bytes) before parcels after
ComesAs service (Usual (From_logger message)) bytes before parcels after =
    ServerMoves service (said_to_server (said_by (grammar_in before) bytes)) before parcels after
ComesAs service (Forget_sent message) bytes before parcels after = LogReads (said_by (grammar_in before) bytes) before parcels after
ComesAs service (Forgotten_sent message) bytes before parcels after =
    ServerMoves service (said_to_server (said_by (grammar_in before) bytes)) before parcels after

-- the parcel with a number, counted from 1. One that is lost comes no more
abbrev pub sent_at : List Sent → ℕ → Option Sent
sent_at sent zero = None
sent_at sent (suc n) = slice_get sent n

abbrev pub Unless : Bool → (LastingWorld → List Parcel → LastingWorld → Type 0) → LastingWorld → List Parcel → LastingWorld → Type 0
Unless true Goes before parcels after = NothingHappens before parcels after
Unless false Goes before parcels after = Goes before parcels after

-- the client with a number, counted from 1, and the clients with another state of it
abbrev pub guest_at : List Guest → ℕ → Option Guest
guest_at guests zero = None
guest_at guests (suc n) = slice_get guests n

abbrev pub with_guest : ℕ → Client → List Guest → List Guest
with_guest number client [] = []
with_guest zero client (g ∷ others) = g ∷ others
with_guest (suc zero) client (g ∷ others) = record g { client = client } ∷ others
with_guest (suc (suc n)) client (g ∷ others) = g ∷ with_guest (suc n) client others

-- a client makes the move that an event asks for
pub record GuestMoves (before : LastingWorld) (event : Event) (parcels : List Parcel) (after : LastingWorld) : Type 0 where
  pub number : ℕ
  pub move : Move
  pub asked : move_asked event ≡ Some (number, move)
  pub guest : Guest
  pub found : guest_at before.guests number ≡ Some guest
  pub parcels_are : parcels ≡ Usual (To_server (segment_of guest.client move (window_of guest.client event))) ∷ []
  pub after_is : after ≡ with_sent parcels (record before { guests = with_guest number (moved guest.client move (window_of guest.client event)) before.guests })

-- What an allowed event does
abbrev pub LastingHappens : {State : Type 0} → Machine State → LastingWorld → Event → List Parcel → LastingWorld → Type 0
LastingHappens service before (Boot boot isn) parcels after =
    (parcels ≡ map Usual (hello (booted before.server before.profile boot isn)))
    × (after ≡ with_sent parcels (record before { boot = boot; node = Some (booted_to_last before.server before.profile boot isn) }))
LastingHappens service before Crash parcels after = (parcels ≡ []) × (after ≡ record before { node = None })
LastingHappens service before Tick parcels after = ServerMoves service (Usual_comes Tick_comes) before parcels after
LastingHappens service before (Deliver number) parcels after =
    (s : Sent) × (sent_at before.sent number ≡ Some s) × Unless s.lost (ParcelComes service s.parcel) before parcels after
LastingHappens service before (Flip number bit) parcels after =
    (s : Sent) × (sent_at before.sent number ≡ Some s)
    × Unless s.lost (ComesAs service s.parcel (flipped bit (bytes_of (grammar_in before) s.parcel))) before parcels after
LastingHappens service before (Begin client window) parcels after = GuestMoves before (Begin client window) parcels after
LastingHappens service before (Send client from len) parcels after = GuestMoves before (Send client from len) parcels after
LastingHappens service before (Fin client) parcels after = GuestMoves before (Fin client) parcels after
LastingHappens service before (Ack client window) parcels after = GuestMoves before (Ack client window) parcels after
LastingHappens service before (Reset client) parcels after = GuestMoves before (Reset client) parcels after
LastingHappens service before (Stop part) parcels after = ⊥

pub record LastingMoment : Type 0 where
  pub event : Event
  pub parcels : List Parcel
  pub world : LastingWorld

abbrev pub lasting_after : LastingWorld → List LastingMoment → LastingWorld
lasting_after start [] = start
lasting_after start (moment ∷ earlier) = moment.world
