-- The server and the clients, and what an event does to them if the server makes no marks. They don't see the log, so it is the same with one logger and
-- two.
use Rattle.std.specs.Prelude.{◌≡◌, None, List, ◌++◌, map}
use Rattle.server_trait.specs.Service.{Machine}
use Rattle.tcp_rules.specs.Profile.{grammar_of}
use Rattle.tcp_rules.specs.Profiles.{profile_of}
use Rattle.ft_model.specs.Legal.{refusal, IsScripted}
use Rattle.ft_model.specs.Network.{Packet}
use Rattle.ft_model.specs.Wire.{wire_by}
use Rattle.ft_model.specs.World.{World as Seen, Happens}
use Rattle.ft_model.specs.declared.event.Event.{Event}
use Rattle.schedule_network.specs.StoredPackets.{with_wires}
use Rattle.net_schedule.specs.Refinement.{Kept, NodeStands, RunsWith}

-- server and clients of the code's world correspond to those of a world of the definitions
pub record ActorsStand {State : Type 0} (service : Machine State) (w : Kept State) (v : Seen) : Type 0 where
  pub server : w.server ≡ v.server
  pub profile : profile_of w.profile ≡ v.profile
  pub keys : w.keys ≡ map (λ c. c.key) v.clients
  pub clients : w.clients ≡ v.clients
  pub boot : w.boot ≡ v.boot
  pub unmarked : w.every ≡ 0
  pub node : NodeStands service w.kind w.node v.node
  pub runs : RunsWith w.profile w.node

-- The world moves to a next one: these packets are sent and stored, and the loggers don't change.
pub record ActorsProceed {State : Type 0} (service : Machine State) (Goes : List Packet → Seen → Type 0) (v : Seen) (before after : Kept State) : Type 0 where
  pub sent : List Packet
  pub world : Seen
  pub goes : Goes sent world
  pub stands : ActorsStand service after world
  pub grew : world.packets ≡ v.packets ++ sent
  pub quiet : world.log ≡ v.log
  pub same_profile : world.profile ≡ v.profile
  pub stored : after.packets ≡ with_wires before.keys before.packets (map (wire_by (grammar_of v.profile)) sent)
  pub same_keys : after.keys ≡ before.keys
  pub same_log : after.log ≡ before.log
  pub same_keepers : after.keepers ≡ before.keepers

-- An event of the server or a client is allowed and happens, and the clients are scripted.
pub record ActorsAdvance {State : Type 0} (service : Machine State) (v : Seen) (event : Event) (before after : Kept State) : Type 0 where
  pub happens : ActorsProceed service (Happens service v event) v before after
  pub allowed : refusal v event ≡ None
  pub scripted : IsScripted v event happens.sent happens.world
