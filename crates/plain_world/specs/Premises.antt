-- What every legal trace guarantees of the world at its end, on which the next step depends.
use Rattle.std.specs.Prelude.{◌≡◌, Option, Some, None, map}
use Rattle.std.specs.List.{AllByRecursion}
use Rattle.tcp_rules.specs.Profile.{grammar_of}
use Rattle.ft_model.specs.Lawful.{fence}
use Rattle.ft_model.specs.Network.{Packet}
use Rattle.ft_model.specs.Network.Packet.{To_server, From_logger}
use Rattle.ft_model.specs.Node.{Node, Input}
use Rattle.ft_model.specs.Node.Input.{Packet_comes, Message_comes}
use Rattle.ft_model.specs.Wire.{HasWireBy}
use Rattle.ft_model.specs.World.{World, MayCome}
use Rattle.ft_model.specs.Keys.{AreDistinct}

-- each packet has a wire in the profile's grammar, no two clients have the same key, and nothing that may arrive at the server fences it
pub record Premises (w : World) : Type 0 where
  pub wires : AllByRecursion (HasWireBy (grammar_of w.profile)) w.packets
  pub distinct : AreDistinct (map (λ c. c.key) w.clients)
  pub unfenced : (node : Node) (input : Input) → w.node ≡ Some node → MayCome w input → fence node input ≡ None

-- this input doesn't fence the server that is up
abbrev pub IsFree : Input → Option Node → Type 0
IsFree input up = (node : Node) → up ≡ Some node → fence node input ≡ None

-- this packet, when it arrives, doesn't fence the server that is up
abbrev pub PassesBy : Packet → Option Node → Type 0
PassesBy (To_server segment) up = IsFree (Packet_comes segment) up
PassesBy (From_logger message) up = IsFree (Message_comes message) up
PassesBy _ up = Unit {0}
