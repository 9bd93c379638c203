-- The code's world with two loggers, the world of the definitions to which it corresponds, and what an event does to both. A parcel is what is sent in that
-- world: a packet, or a datagram between the two loggers.
use Rattle.std.specs.Prelude.{◌≡◌, ℕ, None, Some, List, [], ◌++◌, map}
use Rattle.std.specs.List.{AllByRecursion}
use Rattle.ft_io.specs.declared.Key.{Key}
use Rattle.server_trait.specs.Service.{Machine}
use Rattle.seq_arith.specs.declared.kinds.Grammar.{Grammar}
use Rattle.tcp_rules.specs.Profile.{grammar_of}
use Rattle.ft_model.specs.Legal.{IsScripted}
use Rattle.ft_model.specs.Network.{Packet}
use Rattle.ft_model.specs.Wire.{wire_of}
use Rattle.ft_model.specs.World.{World as Seen, WasSent, DeliveredAs}
use Rattle.ft_model.specs.Network.Packet.{To_logger}
use Rattle.ft_model.specs.declared.event.Event.{Event}
use Rattle.ft_model.specs.declared.way.Way.{Way}
use Rattle.twin_laws.specs.Twin.Between.{Forward, Got}
use Rattle.twin_laws.specs.StoredState.{kept_head, kept_tail, comes_from}
use Rattle.twin_laws.specs.declared.part.Side.TheVariants as sides
use Rattle.twin_laws.specs.Pair.{Pair, IsPaired}
use Rattle.twin_laws.specs.TwinWorld.{Parcel, TwinWorld, TwinEvent, TwinHappens, Elsewhere, HeadHas, TailHas, LoggerHas, serving, seen, parcel_at}
use Rattle.twin_laws.specs.TwinWorld.Parcel.{Outside, Inside}
use Rattle.twin_laws.specs.Flat.{outside}
use Rattle.twin_laws.specs.TwinLegal.{event_of, twin_refusal, bytes_of_parcel}
use Rattle.twin_laws.specs.TwinReport.{way_of_between}
use Rattle.twin_laws.specs.SentBytes.{IsWritten}
use Rattle.net_schedule.specs.Actors.{ActorsStand}
use Rattle.schedule_network.specs.StoredPackets.{Carried, way_along}
use Rattle.schedule_network.specs.Loggers.{Loggers}
use Rattle.schedule_network.specs.Logs.Keepers.{Paired}
use Rattle.net_schedule.specs.Premises.{Premises, ComesAs}
use Rattle.net_schedule.specs.Refinement.{Kept}

-- the direction of a parcel
abbrev pub stored_way : List Key → Parcel → Way
stored_way keys (Outside packet) = way_along keys (wire_of packet)
stored_way keys (Inside between) = way_of_between between

-- parcels as the network stores them
abbrev pub carried_parcels : Grammar → List Key → List Parcel → Carried
carried_parcels grammar keys parcels = record { ways = map (stored_way keys) parcels; bytes = map (bytes_of_parcel grammar) parcels }

-- each logger has the stored state of its counterpart in the definitions
pub record LoggersStand (grammar : Grammar) (l : Loggers) (p : Pair) : Type 0 where
  pub head : l.head ≡ kept_head grammar p.head
  pub tail : l.tail ≡ kept_tail grammar p.tail

-- The code's world corresponds to a world of the definitions with two loggers: each parcel is stored as bytes, with its direction.
pub record TwinWorldStands {State : Type 0} (service : Machine State) (w : Kept State) (v : TwinWorld) : Type 0 where
  pub actors : ActorsStand service w (seen v [])
  pub loggers : Loggers
  pub double : w.keepers ≡ Paired loggers
  pub log : w.log ≡ serving v.pair
  pub pair : LoggersStand (grammar_of v.profile) loggers v.pair
  pub packets : w.packets ≡ carried_parcels (grammar_of v.profile) w.keys v.parcels

-- The world moves to a next one, with these parcels sent, and the code's world corresponds to that.
pub record TwinProceeds {State : Type 0} (service : Machine State) (Goes : List Parcel → TwinWorld → Type 0) (v : TwinWorld) (w : Kept State) : Type 0 where
  pub sent : List Parcel
  pub world : TwinWorld
  pub goes : Goes sent world
  pub stands : TwinWorldStands service w world
  pub grew : world.parcels ≡ v.parcels ++ sent

-- An event is allowed and happens, and the clients are scripted.
pub record TwinAdvances {State : Type 0} (service : Machine State) (v : TwinWorld) (event : Event) (w : Kept State) : Type 0 where
  pub turn : TwinEvent
  pub is : event_of turn ≡ event
  pub happens : TwinProceeds service (TwinHappens service v turn) v w
  pub allowed : twin_refusal v event ≡ None
  pub scripted : IsScripted (seen v []) event (outside happens.sent) (seen happens.world [])

-- What every legal trace guarantees of the world at its end: the premises of a step hold for the packets sent in its reduction to one log; whatever was sent
-- is written; and each logger knows whether it serves alone.
pub record TwinPremises {State : Type 0} (service : Machine State) (v : TwinWorld) : Type 0 where
  pub packets : List Packet
  pub premises : Premises service (seen v packets)
  pub sent : (number : ℕ) (packet : Packet) → parcel_at v.parcels number ≡ Some (Outside packet) → WasSent (seen v packets) packet
  pub written : AllByRecursion (IsWritten (grammar_of v.profile)) v.parcels
  pub paired : IsPaired v.pair

-- these bytes reach the addressee of a parcel in place of the parcel's own
abbrev pub ParcelComesAs : {State : Type 0} → Machine State → Parcel → List ℕ → TwinWorld → List Parcel → TwinWorld → Type 0
ParcelComesAs service (Outside (To_logger message)) bytes before sent after =
    LoggerHas before.pair.head_stopped (comes_from (grammar_of before.profile) sides.Server bytes) before sent after
ParcelComesAs service (Outside packet) bytes before sent after = Elsewhere (λ w. DeliveredAs service w packet bytes) before sent after
ParcelComesAs service (Inside (Forward number request)) bytes before sent after = TailHas
    (comes_from (grammar_of before.profile) sides.Other bytes) before sent after
ParcelComesAs service (Inside (Got number)) bytes before sent after = HeadHas (comes_from (grammar_of before.profile) sides.Other bytes) before sent after

-- what these bytes say may arrive at the addressee of a parcel; between the two loggers anything may arrive
abbrev pub MayComeAs : Seen → Parcel → List ℕ → Type 0
MayComeAs v (Outside packet) bytes = ComesAs v packet bytes
MayComeAs v (Inside between) bytes = Unit {0}
