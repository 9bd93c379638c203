-- What every legal trace guarantees of the world at its end, on which the next step depends.
use Rattle.std.specs.Prelude.{◌≡◌, ℕ, None, Some, List, map}
use Rattle.std.specs.List.{AllByRecursion}
use Rattle.seq_arith.specs.PacketGrammar as segments
use Rattle.seq_arith.specs.MessageGrammar as messages
use Rattle.server_trait.specs.Service.{Machine}
use Rattle.tcp_rules.specs.Profile.{grammar_of}
use Rattle.ft_model.specs.Lawful.{IsNearInput, IsSoundInput, fence}
use Rattle.ft_model.specs.Network.{Packet}
use Rattle.ft_model.specs.Network.Packet.{To_server, To_client, To_logger, From_logger}
use Rattle.ft_model.specs.Node.{Node, Input}
use Rattle.ft_model.specs.Wire.{HasWireBy}
use Rattle.ft_model.specs.World.{World as Seen, MayCome, IsStart, segment_or_noise, message_or_noise}

-- each packet has its bytes, the clients have the keys with which they started, and whatever may arrive at the server is near, lets it fetch what is sound,
-- and doesn't fence it
pub record Premises {State : Type 0} (service : Machine State) (v : Seen) : Type 0 where
  pub wires : AllByRecursion (HasWireBy (grammar_of v.profile)) v.packets
  pub keys : (start : Seen) × IsStart start × (map (λ c. c.key) v.clients ≡ map (λ c. c.key) start.clients)
  pub near : (node : Node) (input : Input) → v.node ≡ Some node → MayCome v input → IsNearInput node.server input node.stage
  pub sound : (node : Node) (input : Input) → v.node ≡ Some node → MayCome v input → IsSoundInput service node input node.stage
  pub unfenced : (node : Node) (input : Input) → v.node ≡ Some node → MayCome v input → fence node input ≡ None

-- what these bytes say may arrive at the addressee of a packet
abbrev pub ComesAs : Seen → Packet → List ℕ → Type 0
ComesAs v (To_server segment) bytes = MayCome v (segment_or_noise (segments.reading bytes))
ComesAs v (From_logger message) bytes = MayCome v (message_or_noise (messages.reading_by (grammar_of v.profile) bytes))
ComesAs v (To_client segment) bytes = Unit {0}
ComesAs v (To_logger message) bytes = Unit {0}
