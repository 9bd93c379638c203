-- One incarnation of the server, from its boot to its crash: its state, and the input of a turn.
use Rattle.std.specs.Prelude.{ℕ, Bool, true, false, ◌==◌, ◌&&◌, find, filter, Option, is_some, List, [], ◌∷◌, length, ◌≤◌}
use Rattle.std.specs.List.{AllByRecursion}
use Rattle.ft_io.specs.declared.Addr.{Addr}
use Rattle.ft_io.specs.declared.Key.{Key}
use Rattle.ft_io.specs.Key.{key_eq}
use Rattle.seq_arith.specs.Packet.{Segment}
use Rattle.tcp_rules.specs.Profile.{Profile}
use Rattle.tcp_rules.specs.declared.timestamping.Timestamping.{Timestamping}
use Rattle.seq_arith.specs.Message.{Numbers, Message}
use Rattle.ft_model.specs.Point.{Point}
use Rattle.ft_model.specs.Restart.{Fetched}

-- what the server has for a key that it knows
pub data Place : Type 0 where
  Opens : Numbers → Timestamping → Place  -- its opening is pending: these numbers are asked for, and its SYN asked for these timestamps
  Lives : Point → Place  -- its connection is live
  Ended : Key → Place  -- it is done: the log has answered Ended, or it was fetched as done

abbrev pub key_of : Place → Key
key_of (Opens numbers timestamping) = numbers.key
key_of (Lives p) = p.key
key_of (Ended key) = key

pub data Stage : Type 0 where
  Asking : Stage  -- Hello is unanswered
  Fetching : (count : ℕ) → List Fetched → Stage  -- of so many entries these have been fetched, at least in part, the newest first
  Serving : (opened : ℕ) → List Place → Stage  -- so many initial sequence numbers are used up; the places are in the log's order, then in that of the SYNs
  Fenced : (newer : ℕ) → Stage  -- a newer incarnation has said Hello to the log: this one has ended

pub record Node : Type 0 where
  pub server : Addr
  pub profile : Profile
  pub boot : ℕ
  pub isn : ℕ
  pub stage : Stage

-- an incarnation at its boot
abbrev pub booted : Addr → Profile → (boot isn : ℕ) → Node
booted server profile boot isn = record { server = server; profile = profile; boot = boot; isn = isn; stage = Asking }

-- one turn's input. Bytes that spell neither a packet nor a message are noise
pub data Input : Type 0 where
  Packet_comes : Segment → Input
  Message_comes : Message → Input
  Noise_comes : Input
  Tick_comes : Input

-- whether a packet is for this server
abbrev pub is_for : Addr → Segment → Bool
is_for server segment = segment.head.dst == server.ip && segment.head.dport == server.port

-- what the server has for a key
abbrev pub place_at : Key → List Place → Option Place
place_at key places = find (λ place. key_eq (key_of place) key) places

abbrev pub is_known : Key → List Place → Bool
is_known key places = is_some (place_at key places)

abbrev pub is_pending : Place → Bool
is_pending (Opens numbers timestamping) = true
is_pending _ = false

abbrev pub pending_count : List Place → ℕ
pending_count places = length (filter is_pending places)

-- the points of the live connections, in order
abbrev pub points_in : List Place → List Point
points_in [] = []
points_in (Lives p ∷ places) = p ∷ points_in places
points_in (_ ∷ places) = points_in places

abbrev pub points_at : Stage → List Point
points_at (Serving opened places) = points_in places
points_at _ = []

-- no more reads of a connection are known to be logged than were made
abbrev pub CountsReads : Place → Type 0
CountsReads (Lives p) = p.reads_answered ≤ length p.lengths
CountsReads _ = Unit {0}

abbrev pub AllCount : Stage → Type 0
AllCount (Serving opened places) = AllByRecursion CountsReads places
AllCount _ = Unit {0}
