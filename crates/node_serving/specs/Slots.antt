-- The slots of the node's keys, and the model's places to which they correspond.
use Rattle.limits.specs.Limits.{largest_segment, least_segment}
use Rattle.std.specs.Prelude.{◌≡◌, ◌≤◌, ℕ, List, [], ◌∷◌, ◌++◌, map, length}
use Rattle.std.specs.Coded.{×_prop, Unit-prop, le_prop}
use Rattle.std.specs.List.{AllByRecursion}
use Rattle.ft_io.specs.declared.Key.{Key}
use Rattle.seq_arith.specs.Message.{Numbers}
use Rattle.server_trait.specs.Service.{Machine}
use Rattle.tcp_rules.specs.Profile.{grammar_of}
use Rattle.ft_model.specs.Network.{Packet}
use Rattle.ft_model.specs.Node.{Node, Place, Input}
use Rattle.ft_model.specs.Node.Place.{Opens, Lives, Ended}
use Rattle.ft_model.specs.ServingTurn.{PlaceTurn, AllGo}
use Rattle.ft_model.specs.Wire.{Wire, wire_by, HasWireBy}
use Rattle.node_serving.specs.declared.slot.Slot.{Slot}
use Rattle.node_serving.specs.declared.slot.Slot.TheVariants as slot
use Rattle.node_serving.specs.declared.slot.Opening.{Opening}
use Rattle.node_serving.specs.declared.identity.Identity.{Identity}
use Rattle.node_serving.specs.Conn.{IsOursAt, Belongs, Belongs-prop}

abbrev pub numbers_of : Key → Opening → Numbers
numbers_of key o = record { key = key; cisn = o.cisn.0; sisn = o.sisn.0; mss = o.mss }

abbrev pub SlotStands : {S : Type 0} → Machine S → Node → Key → Slot S → Place → Type 0
SlotStands service node key (slot.Pending o) (Opens n timestamping) = (n ≡ numbers_of key o) × (timestamping ≡ o.timestamping)
SlotStands service node key (slot.Live c) (Lives p) = (p.key ≡ key) × IsOursAt service node.server node.boot c p
SlotStands service node key slot.Done (Ended k) = k ≡ key
SlotStands service node key _ _ = ⊥

-- each slot corresponds to its place, in order
abbrev pub AllStand : {S : Type 0} → Machine S → Node → List (Key × Slot S) → List Place → Type 0
AllStand service node [] [] = Unit {0}
AllStand service node (e ∷ es) (q ∷ qs) = SlotStands service node e.0 e.1 q × AllStand service node es qs
AllStand service node _ _ = ⊥

-- a live connection is that of its key and its calls may be made, and an opening can be asked for, whatever has arrived
abbrev pub IsSoundSlot : {S : Type 0} → Identity → Key → Slot S → Type 0
IsSoundSlot who key (slot.Live c) = Belongs who key c
IsSoundSlot who key (slot.Pending o) = (least_segment ≤ o.mss) × (o.mss ≤ largest_segment)
IsSoundSlot who key _ = Unit {0}

abbrev pub AllSound : {S : Type 0} → Identity → List (Key × Slot S) → Type 0
AllSound who es = AllByRecursion (λ e. IsSoundSlot who e.0 e.1) es

pub IsSoundSlot-prop : {S : Type 0} (who : Identity) (key : Key) (s : Slot S) → IsProp (IsSoundSlot who key s)
IsSoundSlot-prop who key (slot.Live c) = Belongs-prop who key c
IsSoundSlot-prop who key (slot.Pending o) = ×_prop le_prop le_prop
IsSoundSlot-prop who key slot.Done = Unit-prop

-- one slot's turn
pub record SlotGoes {S : Type 0} (service : Machine S) (node : Node) (input : Input) (key : Key) (place : Place) (now : Slot S)
    (old new : List Wire) : Type 0 where
  pub after : Place
  pub packets : List Packet
  pub stands : SlotStands service node key now after
  pub turn : PlaceTurn service node input place (after ∷ []) packets
  pub wires : new ≡ old ++ map (wire_by (grammar_of node.profile)) packets
  pub spelled : AllByRecursion (HasWireBy (grammar_of node.profile)) packets

-- one slot's turn in which it is removed
pub record SlotLeaves {S : Type 0} (service : Machine S) (node : Node) (input : Input) (place : Place) (old new : List Wire) : Type 0 where
  pub packets : List Packet
  pub turn : PlaceTurn service node input place [] packets
  pub wires : new ≡ old ++ map (wire_by (grammar_of node.profile)) packets
  pub spelled : AllByRecursion (HasWireBy (grammar_of node.profile)) packets

-- the turn of all slots
pub record AllSlotsGo {S : Type 0} (service : Machine S) (node : Node) (input : Input) (places : List Place) (now : List (Key
    × Slot S)) (old new : List Wire) : Type 0 where
  pub after : List Place
  pub packets : List Packet
  pub stands : AllStand service node now after
  pub go : AllGo (PlaceTurn service node input) places after packets
  pub wires : new ≡ old ++ map (wire_by (grammar_of node.profile)) packets
  pub spelled : AllByRecursion (HasWireBy (grammar_of node.profile)) packets

-- the first slots have had their turn, and the others are as before
pub record FirstGo {S : Type 0} (service : Machine S) (node : Node) (input : Input) (places : List Place) (i : ℕ) (now : List (Key
    × Slot S)) (old new : List Wire) : Type 0 where
  pub done : List Place
  pub left : List Place
  pub went : List Place
  pub packets : List Packet
  pub split : places ≡ done ++ left
  pub at : length went ≡ i
  pub stands : AllStand service node now (went ++ left)
  pub go : AllGo (PlaceTurn service node input) done went packets
  pub wires : new ≡ old ++ map (wire_by (grammar_of node.profile)) packets
  pub spelled : AllByRecursion (HasWireBy (grammar_of node.profile)) packets
