-- How a node corresponds to the model's, and its turn by the law.
use Rattle.std.specs.Prelude.{◌≡◌, ◌%◌, ℕ, Bool, true, false, List, map}
use Rattle.std.specs.Coded.{×_prop, Unit-prop, le_prop}
use Rattle.std.proofs.Math.Nat.{ℕ_set}
use Rattle.std.specs.List.{AllByRecursion, AllByRecursion-prop}
use Rattle.server_trait.specs.Service.{Machine}
use Rattle.tcp_rules.specs.Profile.{grammar_of}
use Rattle.ft_model.specs.Network.{Packet}
use Rattle.ft_model.specs.Restart.{Fetched}
use Rattle.ft_model.specs.Node as law
use Rattle.ft_model.specs.Node.{Stage as law_stage}
use Rattle.ft_model.specs.Lawful.{LawfulTurn}
use Rattle.ft_model.specs.Wire.{Wire, wire_by, HasWireBy}
use Rattle.node_serving.specs.declared.identity.Identity.{Identity}
use Rattle.server_node.specs.declared.stage.Stage.{Stage}
use Rattle.server_node.specs.declared.stage.Stage.TheVariants as stage
use Rattle.server_node.specs.declared.input.TurnEnd.{TurnEnd}
use Rattle.server_node.specs.declared.input.TurnEnd.TheVariants as end
use Rattle.node_serving.specs.Identity.{node_of}
use Rattle.server_node.specs.FetchStage.{FetchingStands, IsOwn, IsOwn-prop}
use Rattle.server_node.specs.RestartNumbers.{AllNumbered, fetched_by}
use Rattle.node_serving.specs.Openings.{IsCounted}
use Rattle.node_serving.specs.Slots.{AllSound, IsSoundSlot, IsSoundSlot-prop}
use Rattle.server_node.specs.Marked.{IsSoundMarked, IsSoundMarked-prop}
use Rattle.node_serving.specs.ServingStage.{ServingStands}

abbrev pub StageStands : {S : Type 0} → Machine S → law.Node → Stage S → Type 0
StageStands service node stage.Asking = node.stage ≡ law_stage.Asking
StageStands service node (stage.Fetching f) = (count : ℕ) × (fetched : List Fetched) × (node.stage ≡ law_stage.Fetching count fetched)
    × FetchingStands service count fetched f
StageStands service node (stage.Serving s) = (opened : ℕ) × (places : List law.Place) × (node.stage ≡ law_stage.Serving opened places)
    × ServingStands service node opened places s
StageStands service node (stage.Marked m) = ⊥
StageStands service node stage.Lost = ⊥

-- whether a node marks. A node that does has another law
abbrev pub is_marked : {S : Type 0} → Stage S → Bool
is_marked (stage.Marked m) = true
is_marked _ = false

-- what the calls at a stage require of it, whatever has arrived
abbrev pub IsSoundStage : {S : Type 0} → Identity → Stage S → Type 0
IsSoundStage who (stage.Fetching f) = IsOwn who f
IsSoundStage who (stage.Serving s) = AllSound who s.slots.entries × IsCounted who.isn s.next.0
IsSoundStage who (stage.Marked m) = IsSoundMarked who m
IsSoundStage who _ = Unit {0}

pub IsSoundStage-prop : {S : Type 0} (who : Identity) (at : Stage S) → IsProp (IsSoundStage who at)
IsSoundStage-prop who stage.Asking = Unit-prop
IsSoundStage-prop who (stage.Fetching f) = IsOwn-prop who f
IsSoundStage-prop who (stage.Serving s) =
    ×_prop (AllByRecursion-prop (λ e. IsSoundSlot who e.0 e.1) (λ e. IsSoundSlot-prop who e.0 e.1) s.slots.entries)
    (×_prop (ℕ_set (s.next.0 % 65536) (who.isn % 65536)) le_prop)
IsSoundStage-prop who (stage.Marked m) = IsSoundMarked-prop who m
IsSoundStage-prop who stage.Lost = Unit-prop

-- a turn by the law: the node corresponds to a next one of the model's, and the packets of the turn are what it sent, each in its one spelling. If the turn
-- ends a restart, the inner TCP of the nth restored connection has the nth initial sequence number of this incarnation
pub record NodeGoes {S : Type 0} (service : Machine S) (node : law.Node) (input : law.Input) (who : Identity) (now : Stage S) (sent : List Wire) : Type 0 where
  pub after : law.Stage
  pub packets : List Packet
  pub stands : StageStands service (node_of who after) now
  pub turn : LawfulTurn service node input packets (node_of who after)
  pub numbers : AllNumbered service node.isn (fetched_by node node.stage input) now
  pub wires : sent ≡ map (wire_by (grammar_of node.profile)) packets
  pub spelled : AllByRecursion (HasWireBy (grammar_of node.profile)) packets

-- a turn ended by a fence, and this holds of the larger boot number; or because memory ran out
abbrev pub IsFence : TurnEnd → (ℕ → Type 0) → Type 0
IsFence (end.Fenced newer) Holds = Holds newer
IsFence end.NoMemory Holds = Unit {0}
