-- The code's world with marks, the world of the definitions to which it corresponds, and what an event does to both. A parcel is what is sent in that world:
-- a packet, or a message about marks.
use Rattle.std.specs.Prelude.{◌≡◌, ℕ, ◌<◌, Option, None, Some, List, ◌++◌, map}
use Rattle.std.specs.List.{AllByRecursion}
use Rattle.seq_arith.specs.Mark.{MarkMessage}
use Rattle.seq_arith.specs.PacketGrammar as segments
use Rattle.ft_io.specs.declared.Key.{Key}
use Rattle.server_trait.specs.Service.{Machine}
use Rattle.tcp_rules.specs.Profile.{grammar_of}
use Rattle.tcp_rules.specs.Profiles.{profile_of}
use Rattle.seq_arith.specs.declared.kinds.Grammar.{Grammar}
use Rattle.ft_model.specs.Lawful.{IsNearInput, IsSoundInput, fence}
use Rattle.ft_model.specs.Legal.{IsScripted}
use Rattle.ft_model.specs.Network.Packet.{To_server, To_client, To_logger, From_logger}
use Rattle.ft_model.specs.Node.{Input}
use Rattle.ft_model.specs.Wire.{wire_of}
use Rattle.ft_model.specs.World.{World as Seen, IsStart, MayCome, segment_or_noise}
use Rattle.ft_model.specs.declared.event.Event.{Event}
use Rattle.ft_model.specs.declared.way.Way.{Way}
use Rattle.ft_model.specs.declared.way.Way.TheVariants.{ServerToLogger, LoggerToServer}
use Rattle.mark_laws.specs.MarkedLegal.{markers, marked_refusal}
use Rattle.mark_laws.specs.MarkedNode.{Marker, MarkedNode, MarkedInput}
use Rattle.mark_laws.specs.MarkedNode.MarkedInput.{Plain_comes, Mark_comes}
use Rattle.mark_laws.specs.MarkedWorld.{Parcel, MarkedWorld, MarkedHappens, CanBeRead, bytes_of, usual, seen, parcel_at, said_by, input_of}
use Rattle.mark_laws.specs.MarkedWorld.Parcel.{Usual, Mark_sent, Mark_answered}
use Rattle.mark_laws.specs.Premises.{IsSoundMark}
use Rattle.node_serving.specs.Identity.{node_of}
use Rattle.node_serving.specs.Markers.{Saving}
use Rattle.server_node.specs.MarkedTurns.{NodeStandsAt}
use Rattle.schedule_network.specs.StoredPackets.{Carried, way_along}
use Rattle.schedule_network.specs.FullLog.{StoreAndLog, AreAt, HasDistinctKeys}
use Rattle.schedule_network.specs.Logs.Keepers.{With_marks}
use Rattle.net_schedule.specs.Refinement.{Kept, Server, RunsWith}

-- how the server of a world makes marks, given how the states of its services are saved
abbrev pub marker_for : {State : Type 0} → Saving State → (ℕ → Machine State) → (every kind : ℕ) → Marker State
marker_for saved services every kind = markers services saved.form saved.state_of every kind

-- the direction of a parcel: messages about marks are sent between server and logger
abbrev pub way_of_parcel : List Key → Parcel → Way
way_of_parcel keys (Usual packet) = way_along keys (wire_of packet)
way_of_parcel keys (Mark_sent message) = ServerToLogger
way_of_parcel keys (Mark_answered message) = LoggerToServer

-- parcels as the network stores them
abbrev pub stored_parcels : Grammar → List Key → List Parcel → Carried
stored_parcels grammar keys parcels = record { ways = map (way_of_parcel keys) parcels; bytes = map (bytes_of grammar) parcels }

-- the server runs the service of this kind, and corresponds to an incarnation that makes marks
pub record IsMarkedAt {State : Type 0} (by : Marker State) (kind : ℕ) (now : Server State) (node : MarkedNode) : Type 0 where
  pub kind_is : now.who.kind ≡ kind
  pub is : node.plain ≡ node_of now.who node.plain.stage
  pub stands : NodeStandsAt by node now.stage

-- the server is down in both, or it corresponds to the incarnation that is up
abbrev pub MarkedNodeStands : {State : Type 0} → Marker State → ℕ → Option (Server State) → Option MarkedNode → Type 0
MarkedNodeStands by kind None None = Unit {0}
MarkedNodeStands by kind (Some now) (Some node) = IsMarkedAt by kind now node
MarkedNodeStands by kind _ _ = ⊥

-- the server's address and profile, the clients, and the largest boot number are those of a world of the definitions; a server that is up has that profile
pub record PeersStand {State : Type 0} (w : Kept State) (v : Seen) : Type 0 where
  pub server : w.server ≡ v.server
  pub profile : profile_of w.profile ≡ v.profile
  pub keys : w.keys ≡ map (λ c. c.key) v.clients
  pub clients : w.clients ≡ v.clients
  pub boot : w.boot ≡ v.boot
  pub runs : RunsWith w.profile w.node

-- The code's world corresponds to a world of the definitions with marks: each parcel is stored as bytes, with its direction; the log is a store's full log.
pub record MarkedWorldStands {State : Type 0} (by : Marker State) (w : Kept State) (v : MarkedWorld) : Type 0 where
  pub actors : PeersStand w (seen v)
  pub node : MarkedNodeStands by w.kind w.node v.node
  pub both : StoreAndLog
  pub keepers : w.keepers ≡ With_marks both.store
  pub full_log : w.log ≡ both.full_log
  pub log : w.log ≡ v.log.log
  pub at : AreAt both v.log
  pub packets : w.packets ≡ stored_parcels (grammar_of v.profile) w.keys v.parcels
  pub every : w.every ≡ by.every
  pub marks : 0 < by.every

-- The world moves to a next one, with these parcels sent, and the code's world corresponds to that.
pub record MarkedProceeds {State : Type 0} (by : Marker State) (Goes : List Parcel → MarkedWorld → Type 0) (v : MarkedWorld) (w : Kept State) : Type 0 where
  pub sent : List Parcel
  pub world : MarkedWorld
  pub goes : Goes sent world
  pub stands : MarkedWorldStands by w world
  pub grew : world.parcels ≡ v.parcels ++ sent

-- An event is allowed and happens, and the clients are scripted.
pub record MarkedAdvances {State : Type 0} (by : Marker State) (v : MarkedWorld) (event : Event) (w : Kept State) : Type 0 where
  pub happens : MarkedProceeds by (MarkedHappens by v event) v w
  pub allowed : marked_refusal v event ≡ None
  pub scripted : IsScripted (seen v) event (usual happens.sent) (seen happens.world)

-- what may arrive at the server next: the same as without marks, or the log's answer about marks
abbrev pub MayComeMarked : MarkedWorld → MarkedInput → Type 0
MayComeMarked v (Plain_comes input) = MayCome (seen v) input
MayComeMarked v (Mark_comes message) = (number : ℕ) × (parcel_at v.parcels number ≡ Some (Mark_answered message))

-- What every legal trace with marks guarantees of the world at its end: each parcel can be read, the clients have the keys with which they started, and
-- whatever may arrive at the server is near, lets it fetch what is sound, and doesn't fence it.
pub record MarkedPremises {State : Type 0} (by : Marker State) (v : MarkedWorld) : Type 0 where
  pub readable : AllByRecursion (CanBeRead (grammar_of v.profile)) v.parcels
  pub keys : (start : Seen) × IsStart start × (map (λ c. c.key) v.clients ≡ map (λ c. c.key) start.clients)
  pub distinct : HasDistinctKeys v.log
  pub near : (node : MarkedNode) (input : Input) → v.node ≡ Some node → MayCome (seen v) input → IsNearInput node.plain.server input node.plain.stage
  pub sound : (node : MarkedNode) (input : Input) → v.node ≡ Some node → MayCome (seen v) input → IsSoundInput by.service node.plain input node.plain.stage
  pub unfenced : (node : MarkedNode) (input : Input) → v.node ≡ Some node → MayCome (seen v) input → fence node.plain input ≡ None
  pub marks : (number : ℕ) (node : MarkedNode) → v.node ≡ Some node → (message : MarkMessage) → parcel_at v.parcels number ≡ Some (Mark_answered message)
      → IsSoundMark by v.log.log node message node.plain.stage

-- what these bytes say may arrive at the addressee of a parcel
abbrev pub MarkedComesAs : MarkedWorld → Parcel → List ℕ → Type 0
MarkedComesAs v (Usual (To_server segment)) bytes = MayCome (seen v) (segment_or_noise (segments.reading bytes))
MarkedComesAs v (Usual (From_logger message)) bytes = MayComeMarked v (input_of (said_by (grammar_of v.profile) bytes))
MarkedComesAs v (Mark_answered message) bytes = MayComeMarked v (input_of (said_by (grammar_of v.profile) bytes))
MarkedComesAs v (Usual (To_client segment)) bytes = Unit {0}
MarkedComesAs v (Usual (To_logger message)) bytes = Unit {0}
MarkedComesAs v (Mark_sent message) bytes = Unit {0}
