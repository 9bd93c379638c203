-- A turn of a server that serves: what it does for each known key and for unknown keys, and in which order.
use Rattle.limits.specs.Limits.{most_pending}
use Rattle.std.specs.Prelude.{◌≡◌, ℕ, Bool, true, false, ◌==◌, ◌&&◌, not, nat_lt, map, List, [], ◌∷◌, ◌++◌, if◌then◌else◌}
use Rattle.std.specs.Bool.{MatchBool}
use Rattle.std.specs.List.{flat_map}
use Rattle.ft_io.specs.declared.Key.{Key}
use Rattle.ft_io.specs.Key.{key_eq}
use Rattle.seq_arith.specs.Packet.{Segment}
use Rattle.seq_arith.specs.Message.{Numbers, Body}
use Rattle.seq_arith.specs.Message.Body.{OpenMsg, OpenedMsg, StableMsg, ReadsMsg, EndedMsg, FullMsg}
use Rattle.server_trait.specs.Service.{Machine}
use Rattle.ft_model.specs.Network.{Packet, source_of}
use Rattle.ft_model.specs.Network.Packet.{To_client}
use Rattle.ft_model.specs.Point.{Point}
use Rattle.ft_model.specs.News.{News}
use Rattle.ft_model.specs.News.News.{Comes, Logged, Ticks, Begins}
use Rattle.ft_model.specs.Connection.{ConnectionTurn, reported_by}
use Rattle.ft_model.specs.Opening.{is_syn, numbers_for, timestamping_for, point_opened}
use Rattle.ft_model.specs.Refusal.{as_listen, as_closed, full_rst}
use Rattle.ft_model.specs.Node.{Node, Place, Input, key_of, is_for, is_known, pending_count}
use Rattle.ft_model.specs.Node.Place.{Opens, Lives, Ended}
use Rattle.ft_model.specs.Node.Input.{Packet_comes, Message_comes, Noise_comes, Tick_comes}

-- nothing happens to a place
abbrev pub Stays : Place → List Place → List Packet → Type 0
Stays place now sent = (now ≡ place ∷ []) × (sent ≡ [])

-- a connection takes one turn from a point, and stays live
abbrev pub LivesOn : {State : Type 0} → Machine State → Node → News → Point → List Place → List Packet → Type 0
LivesOn service node news p now sent = (after : Point) × (now ≡ Lives after ∷ []) × ConnectionTurn service node.server node.boot news p after sent

-- what a message of this boot does at the place of its key. Ended ends a live connection, whether or not Done was sent. Opened with the client's number makes
-- the connection, with the numbers that the log has; with another number it drops the opening. Full drops an opening and refuses its SYN
abbrev pub OnReceipt : {State : Type 0} → Machine State → Node → Body → Place → List Place → List Packet → Type 0
OnReceipt service node (StableMsg kept) (Lives p) now sent = LivesOn service node (Logged kept) p now sent
OnReceipt service node (ReadsMsg kept) (Lives p) now sent = LivesOn service node (Logged kept) p now sent
OnReceipt service node (EndedMsg key) (Lives p) now sent = (now ≡ Ended p.key ∷ []) × (sent ≡ [])
OnReceipt service node (OpenedMsg kept) (Opens asked timestamping) now sent =
    MatchBool (kept.cisn == asked.cisn) (LivesOn service node Begins (point_opened node.profile timestamping kept) now sent) ((now ≡ []) × (sent ≡ []))
OnReceipt service node (FullMsg key) (Opens asked timestamping) now sent = (now ≡ []) × (sent ≡ To_client (full_rst node.server asked) ∷ [])
OnReceipt service node _ place now sent = Stays place now sent

-- what an input that concerns a place does there. A segment of a pending key is dropped here: its Open, if it repeats the SYN, comes last
abbrev pub Meets : {State : Type 0} → Machine State → Node → Input → Place → List Place → List Packet → Type 0
Meets service node (Packet_comes segment) (Lives p) now sent = LivesOn service node (Comes segment) p now sent
Meets service node (Packet_comes segment) (Ended key) now sent = (now ≡ Ended key ∷ []) × (sent ≡ map To_client (as_closed node.server segment))
Meets service node (Message_comes message) place now sent = OnReceipt service node message.body place now sent
Meets service node Tick_comes (Lives p) now sent = LivesOn service node Ticks p now sent
Meets service node (Packet_comes segment) (Opens numbers timestamping) now sent = Stays (Opens numbers timestamping) now sent
Meets service node Tick_comes (Opens numbers timestamping) now sent = Stays (Opens numbers timestamping) now sent
Meets service node Tick_comes (Ended key) now sent = Stays (Ended key) now sent
Meets service node Noise_comes place now sent = Stays place now sent

-- whether an answer about a known or a pending connection names this key
abbrev pub names : Body → Key → Bool
names (OpenedMsg numbers) key = key_eq numbers.key key
names (StableMsg kept) key = key_eq kept.key key
names (ReadsMsg kept) key = key_eq kept.key key
names (EndedMsg named) key = key_eq named key
names (FullMsg named) key = key_eq named key
names _ key = false

-- an input concerns a key: a packet for this server from its client, a message of this boot that names it, and each tick
abbrev pub concerns : Node → Input → Key → Bool
concerns node (Packet_comes segment) key = is_for node.server segment && key_eq (source_of segment) key
concerns node (Message_comes message) key = message.boot == node.boot && names message.body key
concerns node Noise_comes key = false
concerns node Tick_comes key = true

-- one place in one turn: the place that it becomes, or none, and the packets that are sent
abbrev pub PlaceTurn : {State : Type 0} → Machine State → Node → Input → Place → List Place → List Packet → Type 0
PlaceTurn service node input place now sent = MatchBool (concerns node input (key_of place)) (Meets service node input place now sent) (Stays place now sent)

-- all places, one after another, each by this law, so that places and packets stay in order
abbrev pub AllGo : (Place → List Place → List Packet → Type 0) → List Place → List Place → List Packet → Type 0
AllGo Goes [] after sent = (after ≡ []) × (sent ≡ [])
AllGo Goes (place ∷ places) after sent =
    (now : List Place) × (later : List Place) × (first : List Packet) × (others : List Packet)
    × (after ≡ now ++ later) × (sent ≡ first ++ others) × Goes place now first × AllGo Goes places later others

-- a packet from an unknown client
abbrev pub is_strange : Node → Segment → List Place → Bool
is_strange node segment places = is_for node.server segment && not (is_known (source_of segment) places)

-- Opening: a SYN of an unknown key makes a pending opening with the next initial sequence number, while fewer than 64 are pending
abbrev pub newcomers : Node → Input → (opened : ℕ) → List Place → List Place
newcomers node (Packet_comes segment) opened places =
    if is_strange node segment places && is_syn segment
    && nat_lt (pending_count places) most_pending
    then Opens (numbers_for node.profile node.isn opened segment) (timestamping_for node.profile segment) ∷ [] else []
newcomers node (Message_comes message) opened places = []
newcomers node Noise_comes opened places = []
newcomers node Tick_comes opened places = []

-- Reset and end: an acknowledgement of an unknown key is refused
abbrev pub refusals : Node → Input → List Place → List Packet
refusals node (Packet_comes segment) places = if is_strange node segment places then map To_client (as_listen node.server segment) else []
refusals node (Message_comes message) places = []
refusals node Noise_comes places = []
refusals node Tick_comes places = []

-- Opening: a pending opening is asked for at its SYN, at each repetition of that, and at each tick
abbrev pub is_asked : Node → Input → Numbers → Bool
is_asked node (Packet_comes segment) numbers =
    is_for node.server segment && is_syn segment && key_eq (source_of segment) numbers.key && segment.head.seq == numbers.cisn
is_asked node Tick_comes numbers = true
is_asked node (Message_comes message) numbers = false
is_asked node Noise_comes numbers = false

abbrev pub opens_at : Node → Input → Place → List Packet
opens_at node input (Opens numbers timestamping) = if is_asked node input numbers then reported_by node.boot (OpenMsg numbers) ∷ [] else []
opens_at node input _ = []

-- A turn of a server that serves. The packets of the known connections come first, in order, then the pending Opens in the same order. A packet of an unknown
-- key that is refused concerns no place, so its RST is the only packet
pub record ServingTurn {State : Type 0} (service : Machine State) (node : Node) (input : Input) (opened : ℕ) (before after : List Place)
    (sent : List Packet) : Type 0 where
  pub went : List Place
  pub by_places : List Packet
  pub all_go : AllGo (PlaceTurn service node input) before went by_places
  pub places : after ≡ went ++ newcomers node input opened before
  pub packets : sent ≡ by_places ++ (refusals node input before ++ flat_map (opens_at node input) after)
