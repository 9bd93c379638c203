-- A lawful incarnation: it boots, fetches the log, and serves. Each of its turns is determined by its state and its input.
use Rattle.std.specs.Prelude.{◌≡◌, IfSome, MatchOption, ℕ, Bool, true, false, ◌+◌, ◌==◌, ◌&&◌, not, nat_lt, map, filter, Option, Some, None, List, []}
use Rattle.std.specs.Prelude.{◌∷◌, ◌++◌, length, if◌then◌else◌}
use Rattle.std.specs.List.{AllByRecursion}
use Rattle.std.specs.Option.{option_to_list}
use Rattle.ft_io.specs.declared.Addr.{Addr}
use Rattle.ft_io.specs.Key.{key_eq}
use Rattle.tcp_rules.specs.Profile.{Profile}
use Rattle.seq_arith.specs.Packet.{Segment, has_rst}
use Rattle.seq_arith.specs.Message.{Body, Message}
use Rattle.seq_arith.specs.Message.Body.{HelloMsg, SummaryMsg, StaleMsg}
use Rattle.server_trait.specs.Service.{Machine}
use Rattle.ft_model.specs.Offset.{IsNear}
use Rattle.ft_model.specs.Network.{Packet, source_of}
use Rattle.ft_model.specs.Network.Packet.{To_client}
use Rattle.ft_model.specs.News.News.{Begins}
use Rattle.ft_model.specs.Connection.{reported_by}
use Rattle.ft_model.specs.Restart.{Fetched, Wanted, wanted, question, fetched_after, holding_segment, live_entry, entry_in, is_whole, point_of, IsSoundEntry}
use Rattle.ft_model.specs.Node.{Node, Place, Stage, Input, booted, is_for}
use Rattle.ft_model.specs.Node.Place.{Opens, Lives, Ended}
use Rattle.ft_model.specs.Node.Stage.{Asking, Fetching, Serving, Fenced}
use Rattle.ft_model.specs.Node.Input.{Packet_comes, Message_comes, Noise_comes, Tick_comes}
use Rattle.ft_model.specs.ServingTurn.{Stays, LivesOn, AllGo, newcomers, ServingTurn}

-- nothing happens, and nothing is sent
abbrev pub Rests : Stage → Stage → List Packet → Type 0
Rests before after sent = (after ≡ before) × (sent ≡ [])

-- the boot's own turn sends Hello, and so does each tick until Hello is answered
abbrev pub hello : Node → List Packet
hello node = reported_by node.boot HelloMsg ∷ []

-- a question to the log
abbrev pub asked : Node → Option Wanted → List Packet
asked node w = map (λ x. reported_by node.boot (question x)) (option_to_list w)

-- the place of a fetched entry: its connection at the entry's point, unless it is done
abbrev pub restored : {State : Type 0} → Machine State → Profile → Fetched → Place
restored service profile f = if f.head.done then Ended f.head.key else Lives (point_of service profile (entry_in f))

-- the places of the fetched entries, in the log's order
abbrev pub all_restored : {State : Type 0} → Machine State → Profile → List Fetched → List Place
all_restored service profile [] = []
all_restored service profile (f ∷ earlier) = all_restored service profile earlier ++ restored service profile f ∷ []

-- each restarted connection uses up an initial sequence number
abbrev pub restored_count : List Fetched → ℕ
restored_count fetched = length (filter (λ f. not f.head.done) fetched)

-- a restored place in the turn in which it becomes live
abbrev pub Revives : {State : Type 0} → Machine State → Node → Place → List Place → List Packet → Type 0
Revives service node (Lives p) now sent = LivesOn service node Begins p now sent
Revives service node place now sent = Stays place now sent

-- Restart: the next question is asked at once. When nothing is missing any more, all entries that aren't done become live in this turn, each at its point, and
-- continue by the law of every turn
abbrev pub Continues : {State : Type 0} → Machine State → Node → (count : ℕ) → List Fetched → Option Wanted → Stage → List Packet → Type 0
Continues service node count fetched (Some w) after sent = (after ≡ Fetching count fetched) × (sent ≡ asked node (Some w))
Continues service node count fetched None after sent =
    (places : List Place) × (after ≡ Serving (restored_count fetched) places)
    × AllGo (Revives service node) (all_restored service node.profile fetched) places sent

-- the same, where the question is for what is now missing of the log's entries
abbrev pub Fetches : {State : Type 0} → Machine State → Node → (count : ℕ) → List Fetched → Stage → List Packet → Type 0
Fetches service node count fetched after sent = Continues service node count fetched (wanted count fetched) after sent

-- the count that a Summary of this boot reports
abbrev pub summary_count : Body → Option ℕ
summary_count (SummaryMsg count) = Some count
summary_count _ = None

abbrev pub count_reported : Node → Message → Option ℕ
count_reported node message = if message.boot == node.boot then summary_count message.body else None

-- what is fetched after a message, if the message is an answer of this boot that fits
abbrev pub fetched_then : Node → Message → (count : ℕ) → List Fetched → Option (List Fetched)
fetched_then node message count fetched = if message.boot == node.boot then fetched_after (wanted count fetched) message.body fetched else None

-- what a client is sent while the server fetches. Nothing is sent before its entry is fetched, nor if that is done, nor in answer to a RST
abbrev pub held : Node → List Fetched → Segment → List Packet
held node fetched segment =
    if is_for node.server segment && not (has_rst segment)
    then map (λ f. To_client (holding_segment node.server f.head)) (option_to_list (live_entry (source_of segment) fetched))
    else []

-- a turn, by the stage before it. A message counts only if it has the server's own boot. An answer that doesn't fit is dropped
abbrev pub StageTurn : {State : Type 0} → Machine State → Node → Stage → Input → Stage → List Packet → Type 0
StageTurn service node Asking Tick_comes after sent = (after ≡ Asking) × (sent ≡ hello node)
StageTurn service node Asking (Message_comes message) after sent =
    MatchOption (count_reported node message) (Rests Asking after sent) (λ count. Fetches service node count [] after sent)
StageTurn service node Asking (Packet_comes segment) after sent = Rests Asking after sent
StageTurn service node Asking Noise_comes after sent = Rests Asking after sent
StageTurn service node (Fetching count fetched) Tick_comes after sent = (after ≡ Fetching count fetched) × (sent ≡ asked node (wanted count fetched))
StageTurn service node (Fetching count fetched) (Message_comes message) after sent =
    MatchOption (fetched_then node message count fetched) (Rests (Fetching count fetched) after sent) (λ more. Fetches service node count more after sent)
StageTurn service node (Fetching count fetched) (Packet_comes segment) after sent = (after ≡ Fetching count fetched) × (sent ≡ held node fetched segment)
StageTurn service node (Fetching count fetched) Noise_comes after sent = Rests (Fetching count fetched) after sent
StageTurn service node (Serving opened places) input after sent =
    (later : List Place) × (after ≡ Serving (opened + length (newcomers node input opened places)) later)
    × ServingTurn service node input opened places later sent
StageTurn service node (Fenced newer) input after sent = ⊥

abbrev pub newer_than : ℕ → Body → Option ℕ
newer_than boot (StaleMsg newer) = if nat_lt boot newer then Some newer else None
newer_than boot _ = None

-- a Stale with the server's own boot, which names a larger one: it fences the server
abbrev pub fence : Node → Input → Option ℕ
fence node (Message_comes message) = if message.boot == node.boot then newer_than node.boot message.body else None
fence node (Packet_comes segment) = None
fence node Noise_comes = None
fence node Tick_comes = None

abbrev pub NodeTurn : {State : Type 0} → Machine State → Node → Input → Option ℕ → Stage → List Packet → Type 0
NodeTurn service node input (Some newer) after sent = (after ≡ Fenced newer) × (sent ≡ [])
NodeTurn service node input None after sent = StageTurn service node node.stage input after sent

abbrev pub is_fenced : Stage → Bool
is_fenced (Fenced newer) = true
is_fenced _ = false

-- One turn of an incarnation, from its state, by this input, with these packets sent. A fenced one has no further turn
pub record LawfulTurn {State : Type 0} (service : Machine State) (before : Node) (input : Input) (sent : List Packet) (after : Node) : Type 0 where
  pub server : after.server ≡ before.server
  pub profile : after.profile ≡ before.profile
  pub boot : after.boot ≡ before.boot
  pub isn : after.isn ≡ before.isn
  pub live : is_fenced before.stage ≡ false
  pub stage : NodeTurn service before input (fence before input) after.stage sent

-- a turn of a process on its own, with the server's state after it
pub record Turn : Type 0 where
  pub input : Input
  pub sent : List Packet
  pub node : Node

abbrev pub node_after : Node → List Turn → Node
node_after first [] = first
node_after first (turn ∷ earlier) = turn.node

-- an incarnation, by its own inputs and outputs, newest turn first. The boot's own turn, `hello`, comes before all of them
abbrev pub IsLawful : {State : Type 0} → Machine State → Node → List Turn → Type 0
IsLawful service first [] = Unit {0}
IsLawful service first (turn ∷ earlier) = IsLawful service first earlier × LawfulTurn service (node_after first earlier) turn.input turn.sent turn.node

-- an incarnation of this server from its boot on: what the boot sends, and the turns after it
abbrev pub Lawful : {State : Type 0} → Machine State → Addr → Profile → (boot isn : ℕ) → List Packet → List Turn → Type 0
Lawful service server profile boot isn at_boot turns = (at_boot ≡ hello (booted server profile boot isn))
    × IsLawful service (booted server profile boot isn) turns

-- the premises of a lawful process: a packet for this server from the client of a live connection is near to that connection, ..
abbrev pub IsNearTo : Addr → Segment → Place → Type 0
IsNearTo server segment (Opens numbers timestamping) = Unit {0}
IsNearTo server segment (Lives p) = is_for server segment ≡ true → key_eq (source_of segment) p.key ≡ true → IsNear p.cisn p.sisn segment
IsNearTo server segment (Ended key) = Unit {0}

abbrev pub AreNear : Addr → Segment → Stage → Type 0
AreNear server segment Asking = Unit {0}
AreNear server segment (Fetching count fetched) = Unit {0}
AreNear server segment (Serving opened places) = AllByRecursion (IsNearTo server segment) places
AreNear server segment (Fenced newer) = Unit {0}

abbrev pub IsNearInput : Addr → Input → Stage → Type 0
IsNearInput server (Packet_comes segment) stage = AreNear server segment stage
IsNearInput server (Message_comes message) stage = Unit {0}
IsNearInput server Noise_comes stage = Unit {0}
IsNearInput server Tick_comes stage = Unit {0}

-- .. and the entries that it has fetched completely are sound. An entry that isn't complete yet needn't be sound, and one that is done isn't replayed
abbrev pub AreSound : {State : Type 0} → Machine State → List Fetched → Type 0
AreSound service fetched = AllByRecursion (λ f. f.head.done ≡ false → is_whole f ≡ true → IsSoundEntry service (entry_in f)) fetched

abbrev pub IsSoundInput : {State : Type 0} → Machine State → Node → Input → Stage → Type 0
IsSoundInput service node (Message_comes message) (Fetching count fetched) = IfSome (fetched_then node message count fetched) (AreSound service)
IsSoundInput service node (Message_comes message) Asking = Unit {0}
IsSoundInput service node (Message_comes message) (Serving opened places) = Unit {0}
IsSoundInput service node (Message_comes message) (Fenced newer) = Unit {0}
IsSoundInput service node (Packet_comes segment) stage = Unit {0}
IsSoundInput service node Noise_comes stage = Unit {0}
IsSoundInput service node Tick_comes stage = Unit {0}
