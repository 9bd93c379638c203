-- How a node that serves corresponds to the model's, and its turn.
use Rattle.std.specs.Prelude.{◌≡◌, ℕ, ◌+◌, List, ◌++◌, map, length}
use Rattle.std.specs.List.{AllByRecursion}
use Rattle.server_trait.specs.Service.{Machine}
use Rattle.tcp_rules.specs.Profile.{grammar_of}
use Rattle.ft_model.specs.Network.{Packet}
use Rattle.ft_model.specs.Node.{Node, Place, Input}
use Rattle.ft_model.specs.Opening.{initial_number}
use Rattle.ft_model.specs.ServingTurn.{newcomers, ServingTurn}
use Rattle.ft_model.specs.Wire.{Wire, wire_by, HasWireBy}
use Rattle.node_serving.specs.declared.serving.Serving.{Serving}
use Rattle.node_serving.specs.Slots.{AllStand}

-- `opened` initial sequence numbers are used up, and the slots correspond to these places
pub record ServingStands {S : Type 0} (service : Machine S) (node : Node) (opened : ℕ) (places : List Place) (now : Serving S) : Type 0 where
  pub number : now.next.0 ≡ initial_number node.isn opened
  pub slots : AllStand service node now.slots.entries places

-- a turn by the law: the node corresponds to a next one of the model's, and the packets of the turn are sent after what was sent before, each in its one
-- spelling
pub record ServingGoes {S : Type 0} (service : Machine S) (node : Node) (input : Input) (opened : ℕ) (places : List Place) (now : Serving S)
    (old new : List Wire) : Type 0 where
  pub later : List Place
  pub packets : List Packet
  pub stands : ServingStands service node (opened + length (newcomers node input opened places)) later now
  pub turn : ServingTurn service node input opened places later packets
  pub wires : new ≡ old ++ map (wire_by (grammar_of node.profile)) packets
  pub spelled : AllByRecursion (HasWireBy (grammar_of node.profile)) packets
