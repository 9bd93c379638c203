-- The world as its contracts see it.
use Rattle.std.specs.Prelude.{◌≡◌, ℕ, ◌+◌, ◌≤◌, Option, Some, None, option_map, List, ◌∷◌, ◌++◌, map, length}
use Rattle.ft_io.specs.declared.Addr.{Addr}
use Rattle.server_trait.specs.Service.{Machine}
use Rattle.tcp_rules.specs.Profile.{Profile}
use Rattle.ft_model.specs.Client.{Client}
use Rattle.ft_model.specs.Legal.{IsLegalFor, start_of}
use Rattle.ft_model.specs.Log.{Log}
use Rattle.ft_model.specs.Network.{Packet}
use Rattle.ft_model.specs.Node.{Node}
use Rattle.ft_model.specs.Schedule.{kind_of}
use Rattle.ft_model.specs.Wire.{Wire}
use Rattle.ft_model.specs.World.{World, Moment, world_after, events_of}
use Rattle.ft_model.specs.declared.event.Event.{Event}
use Rattle.ft_model.specs.declared.schedule.Schedule.{Schedule}
use Rattle.plain_packets.specs.Sent.{kept_wire}
use Rattle.plain_world.specs.Served.{IsServedNode}
use Rattle.plain_world.specs.Values.{NodeState, node_in, opened_in}

-- the clients, the log, and the server, if it is up
pub record ActorsState (State : Type 0) : Type 0 where
  pub clients : List Client
  pub log : Log
  pub node : Option (NodeState State)

pub record WorldState (State : Type 0) : Type 0 where
  pub kind : ℕ  -- of the service
  pub server : Addr
  pub profile : Profile
  pub clients : List Client
  pub log : Log
  pub packets : List Wire
  pub boot : ℕ
  pub node : Option (NodeState State)
  pub turns : ℕ  -- how many events happened

-- the incarnation that is up
abbrev pub node_of : {State : Type 0} → Option (NodeState State) → Option Node
node_of node = option_map node_in node

-- these actors in the world of the definitions
abbrev pub world_with : {State : Type 0} → (server : Addr) (profile : Profile) (boot : ℕ) → List Packet → ActorsState State → World
world_with server profile boot packets actors = record {
  server = server;
  profile = profile;
  clients = actors.clients;
  log = actors.log;
  packets = packets;
  boot = boot;
  node = node_of actors.node;
}

abbrev pub actors_of : {State : Type 0} → WorldState State → ActorsState State
actors_of state = record { clients = state.clients; log = state.log; node = state.node }

-- the world of the definitions with these packets
abbrev pub world_of : {State : Type 0} → WorldState State → List Packet → World
world_of state packets = world_with state.server state.profile state.boot packets (actors_of state)

-- the plain world has the contents of a world of the definitions, with each packet as its kept wire
pub record Represents {State : Type 0} (state : WorldState State) (w : World) : Type 0 where
  pub server : state.server ≡ w.server
  pub profile : state.profile ≡ w.profile
  pub clients : state.clients ≡ w.clients
  pub log : state.log ≡ w.log
  pub packets : state.packets ≡ map kept_wire w.packets
  pub boot : state.boot ≡ w.boot
  pub node : node_of state.node ≡ w.node

-- a server that is up runs a service of this kind, ..
abbrev pub OfKind : {State : Type 0} → ℕ → Option (NodeState State) → Type 0
OfKind kind None = Unit {0}
OfKind kind (Some n) = n.kind ≡ kind

-- .. its service runs as it should, ..
abbrev pub IsServedUp : {State : Type 0} → (ℕ → Machine State) → Option (NodeState State) → Type 0
IsServedUp service None = Unit {0}
IsServedUp service (Some n) = IsServedNode (service n.kind) n

-- .. and it has used up so many initial sequence numbers
abbrev pub opened_of : {State : Type 0} → Option (NodeState State) → ℕ
opened_of None = 0
opened_of (Some n) = opened_in n

-- the server can take a turn
pub record IsReady {State : Type 0} (service : ℕ → Machine State) (state : WorldState State) : Type 0 where
  pub same_kind : OfKind state.kind state.node
  pub served : IsServedUp service state.node
  pub few : opened_of state.node ≤ 65535 + state.turns

-- the world is at the end of a legal trace of a schedule's first events
pub record IsAt {State : Type 0} (service : ℕ → Machine State) (schedule : Schedule) (trace : List Moment) (state : WorldState State) : Type 0 where
  pub legal : IsLegalFor service schedule (events_of trace) trace
  pub represents : Represents state (world_after (start_of schedule) trace)
  pub turns : state.turns ≡ length trace
  pub kind : state.kind ≡ kind_of schedule.service
  pub ready : IsReady service state

-- one more moment: the event happened, and what it sent is appended
pub record Steps {State : Type 0} (service : ℕ
    → Machine State) (schedule : Schedule) (trace : List Moment) (asked : Event) (old new : WorldState State) : Type 0 where
  pub moment : Moment
  pub event : moment.event ≡ asked
  pub at : IsAt service schedule (moment ∷ trace) new
  pub packets : new.packets ≡ old.packets ++ map kept_wire moment.sent
