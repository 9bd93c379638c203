-- The world of the code, the world of the definitions to which it corresponds, and what an event does to both.
use Rattle.std.specs.Prelude.{◌≡◌, ℕ, Option, None, Some, List, ◌++◌, map}
use Rattle.ft_io.specs.declared.Addr.{Addr}
use Rattle.ft_io.specs.declared.Key.{Key}
use Rattle.server_trait.specs.Service.{Machine}
use Rattle.tcp_rules.specs.Profile.{grammar_of}
use Rattle.tcp_rules.specs.Profiles.{profile_of}
use Rattle.tcp_rules.specs.declared.profile.Profile.{Profile}
use Rattle.ft_model.specs.Client.{Client}
use Rattle.ft_model.specs.Log.{Log}
use Rattle.ft_model.specs.Network.{Packet}
use Rattle.ft_model.specs.Node.{Node, Stage}
use Rattle.ft_model.specs.Wire.{wire_by}
use Rattle.ft_model.specs.World.{World as Seen, Happens}
use Rattle.ft_model.specs.Legal.{refusal, IsScripted}
use Rattle.ft_model.specs.declared.event.Event.{Event}
use Rattle.node_serving.specs.Identity.{node_of}
use Rattle.server_node.specs.Stages.{StageStands}
use Rattle.node_serving.specs.declared.identity.Identity.{Identity}
use Rattle.server_node.specs.declared.stage.Stage.{Stage as Holds}
use Rattle.schedule_network.specs.StoredPackets.{Carried, carried}
use Rattle.schedule_network.specs.Logs.{Keepers}
use Rattle.schedule_network.specs.Logs.Keepers.{Single}
use Rattle.schedule_network.specs.declared.end.StepEnd.{StepEnd}
use Rattle.schedule_network.specs.declared.end.StepEnd.TheVariants.{BadEvent}

-- a server that is up: its identity, which never changes, and its state
pub record Server (State : Type 0) : Type 0 where
  pub who : Identity
  pub stage : Holds State

-- what the code's world stores
pub record Kept (State : Type 0) : Type 0 where
  pub kind : ℕ  -- of the service
  pub server : Addr
  pub profile : Profile  -- of the server
  pub keys : List Key  -- of the clients
  pub clients : List Client
  pub log : Log  -- the one that serves; with marks, the full log
  pub keepers : Keepers
  pub every : ℕ  -- after how many reads the server makes a mark; 0 if it makes none
  pub packets : Carried
  pub boot : ℕ
  pub node : Option (Server State)

-- the server runs the service of this kind, and corresponds to an incarnation
pub record IsAt {State : Type 0} (service : Machine State) (kind : ℕ) (now : Server State) (node : Node) : Type 0 where
  pub kind_is : now.who.kind ≡ kind
  pub standing : Stage
  pub is : node ≡ node_of now.who standing
  pub stands : StageStands service (node_of now.who standing) now.stage

-- the server is down in both, or it corresponds to the incarnation that is up
abbrev pub NodeStands : {State : Type 0} → Machine State → ℕ → Option (Server State) → Option Node → Type 0
NodeStands service kind None None = Unit {0}
NodeStands service kind (Some now) (Some node) = IsAt service kind now node
NodeStands service kind _ _ = ⊥

-- a server that is up has this profile
abbrev pub RunsWith : {State : Type 0} → Profile → Option (Server State) → Type 0
RunsWith profile None = Unit {0}
RunsWith profile (Some now) = now.who.profile ≡ profile

-- The code's world corresponds to a world of the definitions: each packet is stored in its one spelling, with its direction. The profile says how messages are
-- written.
pub record WorldStands {State : Type 0} (service : Machine State) (w : Kept State) (v : Seen) : Type 0 where
  pub server : w.server ≡ v.server
  pub profile : profile_of w.profile ≡ v.profile
  pub keys : w.keys ≡ map (λ c. c.key) v.clients
  pub clients : w.clients ≡ v.clients
  pub single : w.keepers ≡ Single
  pub unmarked : w.every ≡ 0
  pub log : w.log ≡ v.log
  pub packets : w.packets ≡ carried w.keys (map (wire_by (grammar_of v.profile)) v.packets)
  pub boot : w.boot ≡ v.boot
  pub node : NodeStands service w.kind w.node v.node
  pub runs : RunsWith w.profile w.node

-- The world moves to a next one, with these packets sent, and the code's world corresponds to that.
pub record ReachesNext {State : Type 0} (service : Machine State) (Goes : List Packet → Seen → Type 0) (v : Seen) (w : Kept State) : Type 0 where
  pub sent : List Packet
  pub world : Seen
  pub goes : Goes sent world
  pub stands : WorldStands service w world
  pub grew : world.packets ≡ v.packets ++ sent

-- An event is allowed and happens, and the clients are scripted.
pub record Advances {State : Type 0} (service : Machine State) (v : Seen) (event : Event) (w : Kept State) : Type 0 where
  pub happens : ReachesNext service (Happens service v event) v w
  pub allowed : refusal v event ≡ None
  pub scripted : IsScripted v event happens.sent happens.world

-- a refused event leaves the world unchanged; after another error the world may only be dropped
abbrev pub KeepsAtRefusal : {State : Type 0} → Kept State → Kept State → StepEnd → Type 0
KeepsAtRefusal before after (BadEvent why) = after ≡ before
KeepsAtRefusal before after _ = Unit {0}
