-- What the methods of the code's world do: a relation for each layer. It holds for each world of the definitions that a legal trace can reach and to which
-- the code's world may correspond: one with one logger, with two, or with marks.
use Rattle.std.specs.Prelude.{◌≡◌, ℕ, ◌≤◌, Some, List, length}
use Rattle.server_trait.specs.declared.Service.{Ghosts}
use Rattle.tcp_rules.specs.Profile.{grammar_of}
use Rattle.tcp_rules.specs.Profiles.{profile_of}
use Rattle.ft_model.specs.Legal.{refusal}
use Rattle.ft_model.specs.Network.{Packet}
use Rattle.ft_model.specs.Node.{Input}
use Rattle.ft_model.specs.Wire.{wire_of}
use Rattle.ft_model.specs.World.{World as Seen, MayCome, ServerMoves, DeliveredAs}
use Rattle.ft_model.specs.declared.event.Event.{Event}
use Rattle.ft_model.specs.declared.event.EventWhy.{EventWhy}
use Rattle.ft_model.specs.declared.way.Way.{Way}
use Rattle.mark_laws.specs.MarkedNode.{MarkedInput}
use Rattle.twin_laws.specs.TwinLegal.{twin_refusal}
use Rattle.twin_laws.specs.TwinWorld.{Parcel, TwinWorld, seen}
use Rattle.net_schedule.specs.Actors.{ActorsStand, ActorsProceed, ActorsAdvance}
use Rattle.schedule_network.specs.StoredPackets.{way_along}
use Rattle.net_schedule.specs.Delivery.{with_logs}
use Rattle.schedule_network.specs.Logs.{ReceivesIn}
use Rattle.net_schedule.specs.WorldView.{kept, service_of}
use Rattle.net_schedule.specs.Premises.{Premises, ComesAs}
use Rattle.net_schedule.specs.Refinement.{WorldStands, ReachesNext, Advances}
use Rattle.net_schedule.specs.TwinRefinement.{TwinWorldStands, TwinProceeds, TwinAdvances, TwinPremises, ParcelComesAs, MayComeAs, stored_way}
use Rattle.node_serving.specs.Markers.{Saving}
use Rattle.net_schedule.specs.MarkedTurns.{MarkedServes, MarkedBrings, MarkedDoes, MarkedRefuses}
use Rattle.schedule_network.specs.declared.end.StepEnd.{StepEnd}
use Rattle.schedule_network.specs.declared.end.StepEnd.TheVariants.{NoMemory, BadEvent, PacketLimit}
use Rattle.net_schedule.specs.declared.world.World.{World}

-- in every turn the service and the profile stay the same, and packets are only added
pub record Continues {State : Type 0} {ghosts : Ghosts State} (before after : World State ghosts) : Type 0 where
  pub same_kind : after.kind ≡ before.kind
  pub same_profile : after.profile ≡ before.profile
  pub grew : length before.packets.bytes ≤ length after.packets.bytes

-- the server takes its turn on what may arrive
pub record Serves {State : Type 0} {ghosts : Ghosts State} (saved : Saving State) (input : Input) (receipt : MarkedInput)
    (before after : World State ghosts) : Type 0 where
  pub continues : Continues before after
  pub moves : (v : Seen) → ActorsStand (service_of before) (kept before) v → Premises (service_of before) v → MayCome v input
      → ActorsProceed (service_of before) (ServerMoves (service_of before) input v) v (kept before) (kept after)
  pub marked : MarkedServes saved receipt before after

-- an event of the server or a client is allowed and happens
pub record ActorsDo {State : Type 0} {ghosts : Ghosts State} (saved : Saving State) (event : Event) (before after : World State ghosts) : Type 0 where
  pub continues : Continues before after
  pub advances : (v : Seen) → ActorsStand (service_of before) (kept before) v → Premises (service_of before) v
      → ActorsAdvance (service_of before) v event (kept before) (kept after)
  pub marked : MarkedDoes saved event before after

-- such an event is refused
pub record IsRefusedToActors {State : Type 0} {ghosts : Ghosts State} (saved : Saving State) (event : Event) (before : World State ghosts)
    (why : EventWhy) : Type 0 where
  pub usual : (v : Seen) → ActorsStand (service_of before) (kept before) v → Premises (service_of before) v → refusal v event ≡ Some why
  pub marked : MarkedRefuses saved event before why

-- such an event isn't done: it is refused, and nothing changes; or an allocation failed, and the world may only be dropped
abbrev pub ActorsDecline : {State : Type 0} {ghosts : Ghosts State} → Saving State → Event → (before after : World State ghosts) → StepEnd → Type 0
ActorsDecline saved event before after NoMemory = Unit {0}
ActorsDecline saved event before after (BadEvent why) = IsRefusedToActors saved event before why × (kept after ≡ kept before)
ActorsDecline saved event before after PacketLimit = ⊥

-- bytes of this direction arrive at what keeps the log, and what it sends is stored
pub record ReportsLogger {State : Type 0} {ghosts : Ghosts State} (way : Way) (bytes : List ℕ) (before after : World State ghosts) : Type 0 where
  pub is : kept after ≡ with_logs (kept before) (after.logs, after.packets)
  pub receipt : ReceivesIn (grammar_of (profile_of before.profile)) before.logs way bytes before.packets after.logs after.packets

-- bytes reach the addressee of a packet that has this direction
pub record Brings {State : Type 0} {ghosts : Ghosts State} (saved : Saving State) (way : Way) (bytes : List ℕ)
    (before after : World State ghosts) : Type 0 where
  pub continues : Continues before after
  pub one : (v : Seen) (packet : Packet) → WorldStands (service_of before) (kept before) v → Premises (service_of before) v
      → way ≡ way_along (kept before).keys (wire_of packet) → ComesAs v packet bytes
      → ReachesNext (service_of before) (DeliveredAs (service_of before) v packet bytes) v (kept after)
  pub two : (v : TwinWorld) (parcel : Parcel) → TwinWorldStands (service_of before) (kept before) v → (p : TwinPremises (service_of before) v)
      → way ≡ stored_way (kept before).keys parcel → MayComeAs (seen v p.packets) parcel bytes
      → TwinProceeds (service_of before) (ParcelComesAs (service_of before) parcel bytes v) v (kept after)
  pub marked : MarkedBrings saved way bytes before after

-- an event is allowed and happens
pub record Does {State : Type 0} {ghosts : Ghosts State} (saved : Saving State) (event : Event) (before after : World State ghosts) : Type 0 where
  pub continues : Continues before after
  pub one : (v : Seen) → WorldStands (service_of before) (kept before) v → Premises (service_of before) v
      → Advances (service_of before) v event (kept after)
  pub two : (v : TwinWorld) → TwinWorldStands (service_of before) (kept before) v → TwinPremises (service_of before) v
      → TwinAdvances (service_of before) v event (kept after)
  pub marked : MarkedDoes saved event before after

-- an event is refused
pub record IsRefused {State : Type 0} {ghosts : Ghosts State} (saved : Saving State) (event : Event) (before : World State ghosts)
    (why : EventWhy) : Type 0 where
  pub one : (v : Seen) → WorldStands (service_of before) (kept before) v → Premises (service_of before) v → refusal v event ≡ Some why
  pub two : (v : TwinWorld) → TwinWorldStands (service_of before) (kept before) v → TwinPremises (service_of before) v
      → twin_refusal v event ≡ Some why
  pub marked : MarkedRefuses saved event before why

-- an event isn't done: it is refused, and nothing changes; or an allocation failed, and the world may only be dropped
abbrev pub Declines : {State : Type 0} {ghosts : Ghosts State} → Saving State → Event → (before after : World State ghosts) → StepEnd → Type 0
Declines saved event before after NoMemory = Unit {0}
Declines saved event before after (BadEvent why) = IsRefused saved event before why × (kept after ≡ kept before)
Declines saved event before after PacketLimit = ⊥
