-- The world with two loggers: clients, network and server as in the world with one, and a head and a tail in place of its log. Each event that isn't a
-- logger's turn happens as in that world.
use Rattle.std.specs.Prelude.{◌≡◌, ℕ, zero, suc, ◌<◌, ◌*◌, Bool, true, false, length, map, Ok, Option, Some, None, List, [], ◌∷◌, ◌++◌, slice_get}
use Rattle.std.specs.Prelude.{if◌then◌else◌}
use Rattle.ft_io.specs.declared.Addr.{Addr}
use Rattle.seq_arith.specs.declared.kinds.Grammar.{Grammar}
use Rattle.tcp_rules.specs.Profile.{Profile, grammar_of}
use Rattle.seq_arith.specs.Damage.{flipped}
use Rattle.seq_arith.specs.Message.{Message}
use Rattle.seq_arith.specs.MessageGrammar as messages
use Rattle.seq_arith.specs.TwinGrammar as twins
use Rattle.server_trait.specs.Service.{Machine}
use Rattle.ft_model.specs.Client.{Client}
use Rattle.ft_model.specs.Log.{Log}
use Rattle.ft_model.specs.Network.{Packet}
use Rattle.ft_model.specs.Network.Packet.{To_logger, From_logger}
use Rattle.ft_model.specs.Node.{Node}
use Rattle.ft_model.specs.Wire.{CanBeWrittenBy}
use Rattle.ft_model.specs.World.{World, Delivered, Flipped, Happens, IsStart}
use Rattle.ft_model.specs.declared.event.Event.{Event}
use Rattle.ft_model.specs.declared.event.Event.TheVariants.{Deliver, Flip}
use Rattle.twin_laws.specs.declared.part.Part.{Part}
use Rattle.twin_laws.specs.Twin.{Request, Between, Comes, Does, head_does, tail_does, from_other_logger, asked, datagram_of, bytes_of}
use Rattle.twin_laws.specs.Twin.Between.{Forward, Got}
use Rattle.twin_laws.specs.Twin.Comes.{Asks, Reports}
use Rattle.twin_laws.specs.Pair.{Pair, new_pair, head_has, tail_has, stopped_by}

-- What was sent: a packet as in the world with one logger, or a datagram between the two
pub data Parcel : Type 0 where
  Outside : Packet → Parcel
  Inside : Between → Parcel

pub record TwinWorld : Type 0 where
  pub server : Addr
  pub profile : Profile
  pub clients : List Client
  pub pair : Pair
  pub parcels : List Parcel  -- all that were ever sent, in order
  pub boot : ℕ
  pub node : Option Node

-- the log that serves is the tail's, until the tail stops
abbrev pub serving : Pair → Log
serving p = if p.tail_stopped then p.head.log else p.tail.log

-- the world with one log that the server and the clients see, with these packets sent
abbrev pub seen : TwinWorld → List Packet → World
seen w packets = record { server = w.server; profile = w.profile; clients = w.clients; log = serving w.pair; packets = packets; boot = w.boot; node = w.node }

pub data TwinEvent : Type 0 where
  Usual : Event → TwinEvent
  Stop : Part → TwinEvent

-- the parcel with a number, counted from 1
abbrev pub parcel_at : List Parcel → ℕ → Option Parcel
parcel_at parcels zero = None
parcel_at parcels (suc n) = slice_get parcels n

-- a turn that leaves the loggers as they were happens as in the world with one
abbrev pub Elsewhere : (World → List Packet → World → Type 0) → TwinWorld → List Parcel → TwinWorld → Type 0
Elsewhere Goes before sent after =
    (packets : List Packet) × (sent ≡ map Outside packets) × Goes (seen before []) packets (seen after packets)
    × (after.pair ≡ before.pair) × (after.parcels ≡ before.parcels ++ sent)

-- what a logger sends in a turn: to the server, then to the other logger
abbrev pub sent_by : {State : Type 0} → Does State → List Parcel
sent_by d = map (λ m. Outside (From_logger m)) d.to_server ++ map Inside d.to_other

-- something arrives at the head, or at the tail. A logger that has stopped sends nothing
abbrev pub HeadHas : Comes → TwinWorld → List Parcel → TwinWorld → Type 0
HeadHas comes before sent after =
    (sent ≡ (if before.pair.head_stopped then [] else sent_by (head_does comes before.pair.head)))
    × (after ≡ record before { pair = head_has comes before.pair; parcels = before.parcels ++ sent })

abbrev pub TailHas : Comes → TwinWorld → List Parcel → TwinWorld → Type 0
TailHas comes before sent after =
    (sent ≡ (if before.pair.tail_stopped then [] else sent_by (tail_does comes before.pair.tail)))
    × (after ≡ record before { pair = tail_has comes before.pair; parcels = before.parcels ++ sent })

-- what the server sends reaches the head, or the tail once the head has stopped
abbrev pub LoggerHas : Bool → Comes → TwinWorld → List Parcel → TwinWorld → Type 0
LoggerHas true comes before sent after = TailHas comes before sent after
LoggerHas false comes before sent after = HeadHas comes before sent after

-- a message of the server arrives in its spelling, in the profile's grammar
abbrev pub request_of : Grammar → Message → Request
request_of grammar message = record { bytes = messages.spelling_by grammar message; message = message }

-- a parcel reaches its addressee
abbrev pub ParcelComes : {State : Type 0} → Machine State → Parcel → TwinWorld → List Parcel → TwinWorld → Type 0
ParcelComes service (Outside (To_logger message)) before sent after =
    LoggerHas before.pair.head_stopped (Asks (request_of (grammar_of before.profile) message)) before sent after
ParcelComes service (Outside packet) before sent after = Elsewhere (λ w. Delivered service w packet) before sent after
ParcelComes service (Inside (Forward number request)) before sent after = TailHas (Reports (Forward number request)) before sent after
ParcelComes service (Inside (Got number)) before sent after = HeadHas (Reports (Got number)) before sent after

-- a datagram between the loggers can be read back as it was sent
abbrev pub CanBeSent : Grammar → Between → Type 0
CanBeSent grammar between = twins.reading_by grammar (bytes_of between) ≡ Ok (datagram_of between)

-- a datagram between the loggers arrives with one of its bits changed
abbrev pub ChangedFor : Between → ℕ → (Comes → TwinWorld → List Parcel → TwinWorld → Type 0) → TwinWorld → List Parcel → TwinWorld → Type 0
ChangedFor between bit Has before sent after =
    CanBeSent (grammar_of before.profile) between × (bit < 8 * length (bytes_of between))
    × Has (from_other_logger (grammar_of before.profile) (twins.reading_by (grammar_of before.profile) (flipped bit (bytes_of between)))) before sent after

-- a parcel reaches its addressee with one bit changed
abbrev pub ParcelFlipped : {State : Type 0} → Machine State → Parcel → ℕ → TwinWorld → List Parcel → TwinWorld → Type 0
ParcelFlipped service (Outside (To_logger message)) bit before sent after =
    CanBeWrittenBy (grammar_of before.profile) message × (bit < 8 * length (messages.spelling_by (grammar_of before.profile) message))
    × LoggerHas before.pair.head_stopped
    (asked (flipped bit (messages.spelling_by (grammar_of before.profile) message))
    (messages.reading_by (grammar_of before.profile) (flipped bit (messages.spelling_by (grammar_of before.profile) message)))) before sent after
ParcelFlipped service (Outside packet) bit before sent after = Elsewhere (λ w. Flipped service w packet bit) before sent after
ParcelFlipped service (Inside (Forward number request)) bit before sent after = ChangedFor (Forward number request) bit TailHas before sent after
ParcelFlipped service (Inside (Got number)) bit before sent after = ChangedFor (Got number) bit HeadHas before sent after

-- What may happen: what may happen in the world with one logger, and one of the two may stop, once
abbrev pub TwinHappens : {State : Type 0} → Machine State → TwinWorld → TwinEvent → List Parcel → TwinWorld → Type 0
TwinHappens service before (Usual (Deliver number)) sent after =
    (parcel : Parcel) × (parcel_at before.parcels number ≡ Some parcel) × ParcelComes service parcel before sent after
TwinHappens service before (Usual (Flip number bit)) sent after =
    (parcel : Parcel) × (parcel_at before.parcels number ≡ Some parcel) × ParcelFlipped service parcel bit before sent after
TwinHappens service before (Usual event) sent after = Elsewhere (λ w. Happens service w event) before sent after
TwinHappens service before (Stop part) sent after =
    (before.pair.head_stopped ≡ false) × (before.pair.tail_stopped ≡ false) × (sent ≡ [])
    × (after ≡ record before { pair = stopped_by part before.pair; parcels = before.parcels ++ sent })

pub record TwinMoment : Type 0 where
  pub event : TwinEvent
  pub sent : List Parcel
  pub world : TwinWorld

abbrev pub twin_after : TwinWorld → List TwinMoment → TwinWorld
twin_after start [] = start
twin_after start (moment ∷ earlier) = moment.world

pub record IsTwinStart (w : TwinWorld) : Type 0 where
  pub start : IsStart (seen w [])
  pub pair : w.pair ≡ new_pair
  pub parcels : w.parcels ≡ []

-- a joint trace with two loggers, newest moment first
abbrev pub TwinJoint : {State : Type 0} → Machine State → TwinWorld → List TwinMoment → Type 0
TwinJoint service start [] = IsTwinStart start
TwinJoint service start (moment ∷ earlier) = TwinJoint service start earlier
    × TwinHappens service (twin_after start earlier) moment.event moment.sent moment.world
