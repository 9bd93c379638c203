-- What a server that lasts does at a tick after its node's own turn, by the law.
use Rattle.std.specs.Prelude.{◌≡◌, ◌++◌, ◌∷◌, [], nat_le, Option, Some, List, map, if◌then◌else◌}
use Rattle.std.specs.List.{AllByRecursion, flat_map}
use Rattle.ft_io.specs.declared.Key.{Key}
use Rattle.server_trait.specs.declared.Service.{Ghosts}
use Rattle.ft_model.specs.Network.{Packet}
use Rattle.ft_model.specs.Node.{Node, Place}
use Rattle.ft_model.specs.Wire.{Wire, wire_by, HasWireBy}
use Rattle.long_laws.specs.LongTrace.{places_at}
use Rattle.long_laws.specs.Forgetting.{forget}
use Rattle.lasting_laws.specs.LastingTurn as law
use Rattle.lasting_laws.specs.LastingTurn.{Tends, TendsAll}
use Rattle.node_serving.specs.Identity.{service_of, grammar_in}
use Rattle.lasting_node.specs.declared.node.LastingNode.{LastingNode}
use Rattle.forget_wire.specs.Value.{named_said}
use Rattle.lasting_lives.specs.declared.life.Life.{Life}
use Rattle.lasting_lives.specs.declared.life.Life.TheVariants as life
use Rattle.lasting_node.specs.Turns.{LastingStands, known_of, forget_wire}

-- the same server, but with this node of the law
abbrev pub with_node : Node → law.LastingNode → law.LastingNode
with_node node n = record n { node = node }

-- these packets are appended, and the server then corresponds to this one
pub record Tended {S : Type 0} {s : Ghosts S} (n : law.LastingNode) (packets : List Packet) (was now : LastingNode S s) : Type 0 where
  pub stands : LastingStands (service_of s was.node.who) n now
  pub wires : now.own.sent.items ≡ was.own.sent.items ++ map (wire_by (grammar_in was.node.who)) packets
  pub spelled : AllByRecursion (HasWireBy (grammar_in was.node.who)) packets

-- a place is let go of or asked, or neither
pub record TendsOne {S : Type 0} {s : Ghosts S} (n : law.LastingNode) (place : Place) (was now : LastingNode S s) : Type 0 where
  pub next : Node
  pub packets : List Packet
  pub tends : Tends (service_of s was.node.who) was.patience.silence n.watches n.node place packets next
  pub tended : Tended (with_node next n) packets was now

-- .. and so are all
pub record TendsEach {S : Type 0} {s : Ghosts S} (n : law.LastingNode) (was now : LastingNode S s) : Type 0 where
  pub last : Node
  pub packets : List Packet
  pub tends : TendsAll (service_of s was.node.who) was.patience.silence n.watches n.node (places_at n.node.stage) packets last
  pub tended : Tended (with_node last n) packets was now

-- the Forget that is due at a tick for a key, by what is known of it
abbrev pub forget_due : {S : Type 0} {s : Ghosts S} → LastingNode S s → Option Life → List Wire
forget_due now (Some (life.Resting r)) = if nat_le now.patience.wait r.age then forget_wire (forget now.node.who.boot (named_said r.named)) ∷ [] else []
forget_due now _ = []

-- .. and those of all keys, in the order of their places
abbrev pub forgets_due : {S : Type 0} {s : Ghosts S} → LastingNode S s → List Key → List Wire
forgets_due now keys = flat_map (λ key. forget_due now (known_of now key)) keys

-- nothing changes but what is sent
pub record SendsOnly {S : Type 0} {s : Ghosts S} (was now : LastingNode S s) : Type 0 where
  pub node : now.node ≡ was.node
  pub patience : now.patience ≡ was.patience
  pub lives : now.lives ≡ was.lives

-- nothing changes but what is known of the keys
pub record NotesOnly {S : Type 0} {s : Ghosts S} (was now : LastingNode S s) : Type 0 where
  pub node : now.node ≡ was.node
  pub patience : now.patience ≡ was.patience
  pub own : now.own ≡ was.own
  pub is_own : now.is_own ≡ was.is_own
