-- The turn that ends a restart: every entry of the log gets its slot, and those that aren't done become live.
use Rattle.std.specs.Prelude.{◌≡◌, false, List, [], ◌∷◌, ◌++◌, map, None}
use Rattle.std.specs.List.{AllByRecursion}
use Rattle.std.specs.Map.{lookup}
use Rattle.ft_io.specs.declared.Key.{Key}
use Rattle.ft_io.specs.Key.{key_eq}
use Rattle.server_trait.specs.Service.{Machine}
use Rattle.tcp_rules.specs.Profile.{grammar_of}
use Rattle.ft_model.specs.Network.{Packet}
use Rattle.ft_model.specs.Restart.{Fetched, is_fetched}
use Rattle.ft_model.specs.Node.{Node, Place}
use Rattle.ft_model.specs.Node as law
use Rattle.ft_model.specs.ServingTurn.{AllGo}
use Rattle.ft_model.specs.Lawful.{Revives, all_restored, restored_count}
use Rattle.ft_model.specs.Wire.{Wire, wire_by, HasWireBy}
use Rattle.node_serving.specs.declared.identity.Identity.{Identity}
use Rattle.node_serving.specs.declared.serving.Serving.{Serving}
use Rattle.node_serving.specs.declared.slot.Slot.{Slot}
use Rattle.server_node.specs.declared.stage.Stage.{Stage}
use Rattle.node_serving.specs.Identity.{node_of, grammar_in}
use Rattle.server_node.specs.RestartNumbers.{AreNumbered, AllNumbered}
use Rattle.node_serving.specs.Slots.{SlotStands}
use Rattle.node_serving.specs.ServingStage.{ServingStands}
use Rattle.server_node.specs.Stages.{StageStands}

-- a slot's first turn, from the place of its entry
pub record SlotRevives {S : Type 0} (service : Machine S) (node : Node) (key : Key) (place : Place) (now : Slot S) (old new : List Wire) : Type 0 where
  pub after : Place
  pub packets : List Packet
  pub stands : SlotStands service node key now after
  pub turn : Revives service node place (after ∷ []) packets
  pub wires : new ≡ old ++ map (wire_by (grammar_of node.profile)) packets
  pub spelled : AllByRecursion (HasWireBy (grammar_of node.profile)) packets

-- these entries, the newest first, have had their first turn in the log's order, and no other key has a slot
pub record AreRestored {S : Type 0} (service : Machine S) (node : Node) (fetched : List Fetched) (now : Serving S) (old new : List Wire) : Type 0 where
  pub places : List Place
  pub packets : List Packet
  pub stands : ServingStands service node (restored_count fetched) places now
  pub go : AllGo (Revives service node) (all_restored service node.profile fetched) places packets
  pub numbers : AreNumbered service node.isn fetched now.slots.entries
  pub others : (key : Key) → is_fetched key fetched ≡ false → lookup (key_eq key) now.slots.entries ≡ None
  pub wires : new ≡ old ++ map (wire_by (grammar_of node.profile)) packets
  pub spelled : AllByRecursion (HasWireBy (grammar_of node.profile)) packets

-- a stage's turn by this law: it corresponds to a next stage of the model, having restored these entries if it serves then, and the packets of the
-- turn are sent after what was sent before, each in its one spelling
pub record StageGoes {S : Type 0} (service : Machine S) (who : Identity) (restored : List Fetched) (Goes : law.Stage → List Packet
    → Type 0) (now : Stage S) (old new : List Wire) : Type 0 where
  pub after : law.Stage
  pub packets : List Packet
  pub stands : StageStands service (node_of who after) now
  pub goes : Goes after packets
  pub numbers : AllNumbered service who.isn restored now
  pub wires : new ≡ old ++ map (wire_by (grammar_in who)) packets
  pub spelled : AllByRecursion (HasWireBy (grammar_in who)) packets
