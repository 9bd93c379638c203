-- What a turn is for one key, whatever the clients of the other keys send and in whatever state their connections are: it is the turn of a server
-- that serves this key alone.
use Rattle.std.specs.Prelude.{◌≡◌, ◌≤◌, ◌&&◌, ◌⊎◌, ℕ, Bool, true, false, Option, Some, None, List, [], ◌++◌, map, if◌then◌else◌}
use Rattle.std.specs.List.{AllByRecursion}
use Rattle.std.specs.Option.{option_to_list}
use Rattle.std.specs.Map.{lookup}
use Rattle.ft_io.specs.declared.Addr.{Addr}
use Rattle.ft_io.specs.declared.Key.{Key}
use Rattle.ft_io.specs.Key.{key_eq}
use Rattle.server_trait.specs.Service.{Machine}
use Rattle.tcp_rules.specs.Profile.{grammar_of}
use Rattle.ft_model.specs.Lawful.{IsNearTo}
use Rattle.ft_model.specs.Network.{Packet}
use Rattle.ft_model.specs.Node.{Node, Place, Input}
use Rattle.ft_model.specs.Node.Input.{Packet_comes, Noise_comes}
use Rattle.ft_model.specs.Opening.{initial_number, is_syn}
use Rattle.ft_model.specs.ServingTurn.{PlaceTurn, ServingTurn, concerns}
use Rattle.ft_model.specs.Wire.{Wire, wire_by, HasWireBy}
use Rattle.node_serving.specs.declared.serving.Serving.{Serving}
use Rattle.node_serving.specs.declared.slot.Slot.{Slot}
use Rattle.node_serving.specs.Openings.{pending_slots}
use Rattle.node_serving.specs.Slots.{SlotStands}
use Rattle.node_serving.specs.Ownership.{IsFor, of_key}

-- what a node that serves has for a key
abbrev pub slot_of : {S : Type 0} → Key → Serving S → Option (Slot S)
slot_of key s = lookup (key_eq key) s.slots.entries

-- a packet that is sent belongs to a key that the input is about: a packet for this server is about the key of its client, a message of this
-- boot about the key that it names, a tick about each key
abbrev pub IsForSubject : Node → Input → Wire → Type 0
IsForSubject node input wire = (key : Key) × (concerns node input key ≡ true) × IsFor (grammar_of node.profile) key wire

-- A turn leaves the slots of the keys that the input isn't about as they are, and sends only packets of the keys that it is about
pub record LeavesOthers {S : Type 0} (node : Node) (input : Input) (was now : Serving S) (sent : List Wire) : Type 0 where
  pub slots : (key : Key) → concerns node input key ≡ false → slot_of key now ≡ slot_of key was
  pub whose : AllByRecursion (IsForSubject node input) sent

-- the slot of one key corresponds to that key's place, or the key has neither
abbrev pub StandsFor : {S : Type 0} → Machine S → Node → Key → Option (Slot S) → Option Place → Type 0
StandsFor service node key (Some slot) (Some place) = SlotStands service node key slot place
StandsFor service node key None None = Unit {0}
StandsFor service node key _ _ = ⊥

-- a packet of the place's own client is near to it
abbrev pub IsNearFor : Addr → Input → Option Place → Type 0
IsNearFor server (Packet_comes segment) (Some place) = IsNearTo server segment place
IsNearFor server _ _ = Unit {0}

-- an input as one key gets it: an input that isn't about the key is no more than noise
abbrev pub coming_to : Node → Key → Input → Input
coming_to node key input = if concerns node input key then input else Noise_comes

-- an input is a SYN, without ACK and RST, from the key's client to this server
abbrev pub is_syn_of : Node → Key → Input → Bool
is_syn_of node key (Packet_comes segment) = concerns node (Packet_comes segment) key && is_syn segment
is_syn_of node key _ = false

-- a SYN of an unknown client is ignored while 64 openings are pending. Nothing else is
pub record IsPassedOver (node : Node) (key : Key) (input : Input) (pending : ℕ) (place after : Option Place) (sent : List Packet) : Type 0 where
  pub syn : is_syn_of node key input ≡ true
  pub full : 64 ≤ pending
  pub unknown : place ≡ None
  pub still : after ≡ None
  pub silent : sent ≡ []

-- a key's turn, by the law: that of a server that has this key alone, where `opened` initial sequence numbers are used up. The one exception is a SYN that is
-- ignored because of the openings of others
abbrev pub KeyTurn : {S : Type 0} → Machine S → Node → Input → Key → (opened pending : ℕ) → Option Place → Option Place → List Packet → Type 0
KeyTurn service node input key opened pending place after sent =
    ServingTurn service node (coming_to node key input) opened (option_to_list place) (option_to_list after) sent
    ⊎ IsPassedOver node key input pending place after sent

-- a key's turn before the Opens: its slot corresponds to what the law makes of its place, and the key's packets among those sent are that place's
abbrev pub MeetsFor : {S : Type 0} → Machine S → Node → Input → Option Place → Option Place → List Packet → Type 0
MeetsFor service node input (Some place) after sent = PlaceTurn service node input place (option_to_list after) sent
MeetsFor service node input None after sent = (after ≡ None) × (sent ≡ [])

pub record KeyMeets {S : Type 0} (service : Machine S) (node : Node) (input : Input) (key : Key) (place : Option Place) (now : Option (Slot S))
    (sent : List Wire) : Type 0 where
  pub after : Option Place
  pub packets : List Packet
  pub stands : StandsFor service node key now after
  pub turn : MeetsFor service node input place after packets
  pub wires : of_key (grammar_of node.profile) key sent ≡ map (wire_by (grammar_of node.profile)) packets
  pub spelled : AllByRecursion (HasWireBy (grammar_of node.profile)) packets

-- the slots of all keys, each alone; `reported` is what the turn has sent, after what was sent before
pub record SlotsAlone {S : Type 0} (service : Machine S) (node : Node) (input : Input) (was now : List (Key × Slot S)) (old new : List Wire) : Type 0 where
  pub reported : List Wire
  pub put : new ≡ old ++ reported
  pub slots : (key : Key) → concerns node input key ≡ false → lookup (key_eq key) now ≡ lookup (key_eq key) was
  pub whose : AllByRecursion (IsForSubject node input) reported
  pub turn : (key : Key) (place : Option Place) → StandsFor service node key (lookup (key_eq key) was) place → IsNearFor node.server input place
      → KeyMeets service node input key place (lookup (key_eq key) now) reported

-- a key's turn: its slot corresponds to the place after it, and the key's packets among those sent are those of the law
pub record KeyGoes {S : Type 0} (service : Machine S) (node : Node) (input : Input) (key : Key) (place : Option Place) (was now : Serving S)
    (sent : List Wire) : Type 0 where
  pub opened : ℕ
  pub after : Option Place
  pub packets : List Packet
  pub number : was.next.0 ≡ initial_number node.isn opened
  pub stands : StandsFor service node key (slot_of key now) after
  pub turn : KeyTurn service node input key opened (pending_slots was.slots.entries) place after packets
  pub wires : of_key (grammar_of node.profile) key sent ≡ map (wire_by (grammar_of node.profile)) packets
  pub spelled : AllByRecursion (HasWireBy (grammar_of node.profile)) packets

-- each key whose slot corresponds to its place has its turn, if its own packet, where the input is one, is near
abbrev pub GoAlone : {S : Type 0} → Machine S → Node → Input → (was now : Serving S) → List Wire → Type 0
GoAlone service node input was now sent =
    (key : Key) (place : Option Place) → StandsFor service node key (slot_of key was) place → IsNearFor node.server input place
    → KeyGoes service node input key place was now sent

-- a turn of a node that serves leaves others alone, and each key has its turn
pub record ServesAlone {S : Type 0} (service : Machine S) (node : Node) (input : Input) (was now : Serving S) (old new : List Wire) : Type 0 where
  pub reported : List Wire
  pub put : new ≡ old ++ reported
  pub others : LeavesOthers node input was now reported
  pub alone : GoAlone service node input was now reported
