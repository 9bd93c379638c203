-- Which clients a server knows, and whose openings are pending: what decides whether a SYN opens a connection, and with which initial sequence number. It
-- follows from what has arrived alone, whatever the states of the connections are.
use Rattle.std.specs.Prelude.{◌≡◌, ◌+◌, ◌==◌, ◌&&◌, not, nat_lt, ℕ, Bool, true, false, Option, Some, List, [], ◌∷◌, ◌++◌, filter, length, map}
use Rattle.std.specs.Prelude.{is_some, if◌then◌else◌}
use Rattle.std.specs.Map.{lookup, set_value, remove_entry}
use Rattle.ft_io.specs.declared.Key.{Key}
use Rattle.ft_io.specs.Key.{key_eq}
use Rattle.seq_arith.specs.Packet.{Segment}
use Rattle.seq_arith.specs.Message.{Body}
use Rattle.seq_arith.specs.Message.Body.{OpenedMsg, FullMsg}
use Rattle.ft_model.specs.Lawful.{restored_count}
use Rattle.ft_model.specs.Network.{source_of}
use Rattle.ft_model.specs.Node.{Node, Input, is_for}
use Rattle.ft_model.specs.Node.Input.{Packet_comes, Message_comes, Noise_comes, Tick_comes}
use Rattle.ft_model.specs.Opening.{initial_number, is_syn}
use Rattle.ft_model.specs.Restart.{Fetched}
use Rattle.node_serving.specs.declared.serving.Serving.{Serving}
use Rattle.node_serving.specs.declared.slot.Slot.{Slot}
use Rattle.node_serving.specs.declared.slot.Slot.TheVariants as slot

-- what a server has for a client that it knows
pub data Known : Type 0 where
  Is_opening : (cisn : ℕ) → Known  -- its opening is pending; its SYN had this sequence number
  Is_connected : Known  -- it has a connection, live or done

pub record Clients : Type 0 where
  pub opened : ℕ  -- so many initial sequence numbers are used up
  pub known : List (Key × Known)  -- in the log's order, then in that of the SYNs

abbrev pub is_opening : Known → Bool
is_opening (Is_opening cisn) = true
is_opening Is_connected = false

-- how many openings are pending
abbrev pub pending_of : List (Key × Known) → ℕ
pending_of known = length (filter (λ e. is_opening e.1) known)

-- Opening: a SYN of an unknown client makes a pending opening with the next initial sequence number, while fewer than 64 are pending
abbrev pub opens_one : Node → Segment → List (Key × Known) → Bool
opens_one node segment known =
    is_for node.server segment && not (is_some (lookup (key_eq (source_of segment)) known)) && (is_syn segment && nat_lt (pending_of known) 64)

abbrev pub with_opening : Segment → Clients → Clients
with_opening segment clients = record { opened = clients.opened + 1; known = clients.known ++ (source_of segment, Is_opening segment.head.seq) ∷ [] }

-- The log's answer to an Open ends the opening: with a connection, if this holds of the SYN's sequence number, or with none
abbrev pub answered : Key → (ℕ → Bool) → Option Known → List (Key × Known) → List (Key × Known)
answered key connects (Some (Is_opening cisn)) known = if connects cisn then set_value (key_eq key) known Is_connected else remove_entry (key_eq key) known
answered key connects _ known = known

-- Opened makes a connection if it has the SYN's sequence number, Full makes none. No other message ends an opening
abbrev pub known_after : Body → List (Key × Known) → List (Key × Known)
known_after (OpenedMsg numbers) known = answered numbers.key (λ cisn. numbers.cisn == cisn) (lookup (key_eq numbers.key) known) known
known_after (FullMsg key) known = answered key (λ cisn. false) (lookup (key_eq key) known) known
known_after _ known = known

-- what a server that serves knows after an input
abbrev pub clients_after : Node → Input → Clients → Clients
clients_after node (Packet_comes segment) clients = if opens_one node segment clients.known then with_opening segment clients else clients
clients_after node (Message_comes message) clients =
    if message.boot == node.boot then record { opened = clients.opened; known = known_after message.body clients.known } else clients
clients_after node Noise_comes clients = clients
clients_after node Tick_comes clients = clients

-- what it knows once it has restored these entries, the newest first: each has a connection, and each that isn't done has used up a number
abbrev pub known_of : List Fetched → List (Key × Known)
known_of [] = []
known_of (f ∷ earlier) = known_of earlier ++ (f.head.key, Is_connected) ∷ []

abbrev pub clients_restored : List Fetched → Clients
clients_restored fetched = record { opened = restored_count fetched; known = known_of fetched }

-- what a node has for its keys
abbrev pub known_as : {S : Type 0} → Slot S → Known
known_as (slot.Pending o) = Is_opening o.cisn.0
known_as (slot.Live c) = Is_connected
known_as slot.Done = Is_connected

abbrev pub known_in : {S : Type 0} → List (Key × Slot S) → List (Key × Known)
known_in es = map (λ e. (e.0, known_as e.1)) es

-- a node knows these clients
pub record Knows {S : Type 0} (node : Node) (clients : Clients) (now : Serving S) : Type 0 where
  pub number : now.next.0 ≡ initial_number node.isn clients.opened
  pub known : known_in now.slots.entries ≡ clients.known

-- .. and after a turn those that this input leaves, whatever the states of the connections are
abbrev pub KnowsOn : {S : Type 0} → Node → Input → (was now : Serving S) → Type 0
KnowsOn node input was now = (clients : Clients) → Knows node clients was → Knows node (clients_after node input clients) now
