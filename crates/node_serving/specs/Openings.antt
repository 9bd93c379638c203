-- How the node opens: the Opens with which a turn ends, and the opening that a SYN makes.
use Rattle.std.specs.Prelude.{◌≡◌, ℕ, ◌+◌, ◌%◌, ◌^◌, ◌<◌, ◌&&◌, nat_lt, Bool, true, false, List, [], ◌∷◌, ◌++◌, filter, length}
use Rattle.std.specs.List.{flat_map}
use Rattle.ft_io.specs.declared.Key.{Key}
use Rattle.std.specs.Bool.{MatchBool}
use Rattle.seq_arith.specs.Packet.{Segment, text_size}
use Rattle.tcp_rules.specs.Timestamping.{timestamps_sent}
use Rattle.seq_arith.specs.Message.Body.{OpenMsg}
use Rattle.server_trait.specs.Service.{Machine}
use Rattle.tcp_rules.specs.Profile.{grammar_of}
use Rattle.ft_model.specs.Connection.{reported_by}
use Rattle.ft_model.specs.Network.{Packet, source_of}
use Rattle.ft_model.specs.Node.{Node, Place, Input}
use Rattle.ft_model.specs.Node.Place.{Opens}
use Rattle.ft_model.specs.Node.Input.{Packet_comes}
use Rattle.ft_model.specs.Opening.{initial_number, is_syn, timestamping_for}
use Rattle.ft_model.specs.ServingTurn.{opens_at, newcomers}
use Rattle.ft_model.specs.Wire.{Wire}
use Rattle.node_serving.specs.declared.slot.Slot.{Slot}
use Rattle.node_serving.specs.declared.slot.Slot.TheVariants as slot
use Rattle.node_serving.specs.declared.slot.Opening.{Opening}
pub use Rattle.node_serving.specs.SentBytes.{ArePut}
use Rattle.node_serving.specs.Slots.{numbers_of, AllStand}

-- a number is one of the initial sequence numbers of an incarnation, each 65,536 after the one before it
abbrev pub IsCounted : (isn next : ℕ) → Type 0
IsCounted isn next = (next % 65536 ≡ isn % 65536) × (next < 2 ^ 32)

-- the Open that is sent for a slot, if one is
abbrev pub slot_opens : {S : Type 0} → Node → Input → Key → Slot S → List Packet
slot_opens node input key (slot.Pending o) = opens_at node input (Opens (numbers_of key o) o.timestamping)
slot_opens node input key _ = []

abbrev pub all_opens : {S : Type 0} → Node → Input → List (Key × Slot S) → List Packet
all_opens node input es = flat_map (λ e. slot_opens node input e.0 e.1) es

abbrev pub is_pending_slot : {S : Type 0} → Slot S → Bool
is_pending_slot (slot.Pending o) = true
is_pending_slot _ = false

abbrev pub pending_slots : {S : Type 0} → List (Key × Slot S) → ℕ
pending_slots es = length (filter (λ e. is_pending_slot e.1) es)

-- a segment of an unknown client makes an opening with the next initial sequence number, and asks for it at once, ..
pub record Opened {S : Type 0} (node : Node) (segment : Segment) (key : Key) (number next : ℕ) (was now : List (Key
    × Slot S)) (old new : List Wire) : Type 0 where
  pub opening : Opening
  pub numbers : numbers_of key opening ≡ record {
    key = source_of segment;
    cisn = segment.head.seq;
    sisn = number;
    mss = text_size segment.head.mss (timestamps_sent (timestamping_for node.profile segment));
  }
  pub timestamping : opening.timestamping ≡ timestamping_for node.profile segment
  pub counted : next ≡ (number + 65536) % 2 ^ 32
  pub slots : now ≡ was ++ (key, slot.Pending opening) ∷ []
  pub asked : ArePut (grammar_of node.profile) (reported_by node.boot (OpenMsg (numbers_of key opening)) ∷ []) old new

pub record Waits {S : Type 0} (first next : ℕ) (was now : List (Key × Slot S)) (old new : List Wire) : Type 0 where
  pub number : next ≡ first
  pub slots : now ≡ was
  pub silent : new ≡ old

-- .. if it is a SYN, and fewer than 64 are pending
abbrev pub Knocks : {S : Type 0} → Node → Segment → Key → (number next : ℕ) → (was now : List (Key × Slot S)) → (old new : List Wire) → Type 0
Knocks node segment key number next was now old new =
    MatchBool (is_syn segment && nat_lt (pending_slots was) 64) (Opened node segment key number next was now old new) (Waits number next was now old new)

-- a segment of an unknown client has made an opening if the law says so, and the Opens of the turn are sent
pub record Admits {S : Type 0} (service : Machine S) (node : Node) (segment : Segment) (opened : ℕ) (places : List Place) (next : ℕ) (now : List (Key
    × Slot S)) (old new : List Wire) : Type 0 where
  pub number : next ≡ initial_number node.isn (opened + length (newcomers node (Packet_comes segment) opened places))
  pub stands : AllStand service node now (places ++ newcomers node (Packet_comes segment) opened places)
  pub opens : ArePut (grammar_of node.profile)
      (flat_map (opens_at node (Packet_comes segment)) (places ++ newcomers node (Packet_comes segment) opened places)) old new
