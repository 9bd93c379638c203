-- One turn of a server that marks: its turn without marks, and the marks that are sent in it.
use Rattle.std.specs.Prelude.{◌≡◌, ℕ, ◌+◌, Bool, true, false, ◌==◌, nat_lt, filter, map, Option, Some, None, MatchOption, List, [], ◌∷◌, ◌++◌, length}
use Rattle.std.specs.Prelude.{if◌then◌else◌}
use Rattle.std.specs.Bool.{MatchBool}
use Rattle.std.specs.List.{flat_map}
use Rattle.std.specs.Option.{option_to_list}
use Rattle.ft_io.specs.declared.Addr.{Addr}
use Rattle.ft_io.specs.declared.Key.{Key}
use Rattle.ft_io.specs.Key.{key_eq}
use Rattle.tcp_rules.specs.Profile.{Profile}
use Rattle.seq_arith.specs.Mark.{Mark, MarkBody, MarkMessage}
use Rattle.seq_arith.specs.Mark.MarkBody.{MarkedMsg, HeldMsg}
use Rattle.seq_arith.specs.Message.{Body}
use Rattle.seq_arith.specs.Message.Body.{DoneMsg}
use Rattle.server_trait.specs.Service.{Machine}
use Rattle.server_trait.specs.Saved.{Writing}
use Rattle.ft_model.specs.Network.{Packet}
use Rattle.ft_model.specs.Network.Packet.{To_logger}
use Rattle.ft_model.specs.Point.{Point}
use Rattle.ft_model.specs.Restart.{Fetched}
use Rattle.ft_model.specs.Node.{Node, Place, Stage, Input, booted, key_of, place_at}
use Rattle.ft_model.specs.Node.Place.{Lives}
use Rattle.ft_model.specs.Node.Stage.{Fetching, Serving, Fenced}
use Rattle.ft_model.specs.Node.Input.{Message_comes, Tick_comes}
use Rattle.ft_model.specs.ServingTurn.{PlaceTurn, concerns, newcomers, refusals, opens_at}
use Rattle.ft_model.specs.Lawful.{Revives, StageTurn, all_restored, restored_count, fence, is_fenced}
use Rattle.mark_laws.specs.MarkedLog.{AnyMessage}
use Rattle.mark_laws.specs.MarkedLog.AnyMessage.{About_mark, Of_log}
use Rattle.mark_laws.specs.Marking.{Marking, Outgoing, outstanding_in, new_marks, with_new, marks_out, with_marks, MarkedTurn}
use Rattle.mark_laws.specs.Marking.Outgoing.{Plain, Mark_to_logger}
use Rattle.mark_laws.specs.Restart.{FetchedSoFar, next_question, fetched_on, mark_reported, begun_on}

-- how a server marks: its service, how the service's states are written, and after how many reads a mark is due
pub record Marker (State : Type 0) : Type 0 where
  pub service : Machine State
  pub writing : Writing State
  pub every : ℕ

pub record MarkedNode : Type 0 where
  pub plain : Node  -- as without marks. While it fetches, what is below a mark counts as fetched
  pub awaits_mark : Bool  -- the mark of the newest fetched entry is asked for
  pub marking : Key → Marking  -- of each connection

abbrev pub unmarked : Marking
unmarked = record { last = 0; outstanding = None }

abbrev pub booted_to_mark : Addr → Profile → (boot isn : ℕ) → MarkedNode
booted_to_mark server profile boot isn = record { plain = booted server profile boot isn; awaits_mark = false; marking = λ key. unmarked }

-- one turn's input
pub data MarkedInput : Type 0 where
  Plain_comes : Input → MarkedInput
  Mark_comes : MarkMessage → MarkedInput

abbrev pub with_stage : Stage → MarkedNode → MarkedNode
with_stage stage node = record node { plain = record node.plain { stage = stage } }

abbrev pub with_marking : Key → Marking → (Key → Marking) → Key → Marking
with_marking key m marking k = if key_eq k key then m else marking k

abbrev pub RestsMarked : MarkedNode → List Outgoing → MarkedNode → Type 0
RestsMarked before sent after = (sent ≡ []) × (after ≡ before)

-- Places

-- the marks of a connection in a turn that ends at this point. At a tick the outstanding mark is sent again
abbrev pub marks_in : {State : Type 0} → Marker State → (tick : Bool) → Marking → Point → List Mark
marks_in by tick m p = (if tick then outstanding_in m else []) ++ new_marks by.service by.writing by.every m p

abbrev pub marks_at : {State : Type 0} → Marker State → (boot : ℕ) → (tick : Bool) → (Key → Marking) → Place → List Outgoing
marks_at by boot tick marking (Lives p) = marks_out boot p (marks_in by tick (marking p.key) p)
marks_at by boot tick marking _ = []

-- the marking of a connection after its turn
abbrev pub marking_then : {State : Type 0} → Marker State → Option Place → Marking → Marking
marking_then by (Some (Lives p)) m = with_new by.service by.writing by.every p m
marking_then by _ m = m

abbrev pub says_done : Body → Bool
says_done (DoneMsg key) = true
says_done _ = false

abbrev pub is_done : Packet → Bool
is_done (To_logger message) = says_done message.body
is_done _ = false

-- one place in a turn: as without marks, with the marks of what it becomes, which are sent before its Done
pub record GoesMarked (Goes : Place → List Place → List Packet → Type 0) (marks : Place
    → List Outgoing) (place : Place) (now : List Place) (sent : List Outgoing) : Type 0 where
  pub packets : List Packet
  pub goes : Goes place now packets
  pub sent_are : sent ≡ with_marks (length (filter is_done packets)) (flat_map marks now) packets

-- all places, one after another
abbrev pub AllGoMarked : (Place → List Place → List Outgoing → Type 0) → List Place → List Place → List Outgoing → Type 0
AllGoMarked Goes [] after sent = (after ≡ []) × (sent ≡ [])
AllGoMarked Goes (place ∷ places) after sent =
    (now : List Place) × (later : List Place) × (first : List Outgoing) × (others : List Outgoing)
    × (after ≡ now ++ later) × (sent ≡ first ++ others) × Goes place now first × AllGoMarked Goes places later others

-- Restart

abbrev pub outgoing : AnyMessage → Outgoing
outgoing (Of_log message) = Plain (To_logger message)
outgoing (About_mark message) = Mark_to_logger message

abbrev pub so_far : MarkedNode → List Fetched → FetchedSoFar
so_far node fetched = record { entries = fetched; awaits_mark = node.awaits_mark }

-- the last mark of an entry is then the fetched one
abbrev pub marking_fetched : MarkBody → (Key → Marking) → Key → Marking
marking_fetched (HeldMsg key m) marking = with_marking key (record { last = m.reads; outstanding = None }) marking
marking_fetched _ marking = marking

-- the next question is asked at once. When nothing is missing any more, the entries that aren't done become live, each with a mark if one is due
abbrev pub Continues : {State : Type 0} → Marker State → MarkedNode → (count : ℕ) → FetchedSoFar → (Key → Marking) → Option AnyMessage → List Outgoing
    → MarkedNode → Type 0
Continues by node count now marking (Some question) sent after =
    (sent ≡ outgoing question ∷ [])
    × (after ≡ record node { plain = record node.plain { stage = Fetching count now.entries }; awaits_mark = now.awaits_mark; marking = marking })
Continues by node count now marking None sent after =
    (places : List Place)
    × AllGoMarked (GoesMarked (Revives by.service node.plain) (marks_at by node.plain.boot false marking))
    (all_restored by.service node.plain.profile now.entries) places sent
    × (after ≡ record node {
      plain = record node.plain { stage = Serving (restored_count now.entries) places };
      awaits_mark = false;
      marking = λ key. marking_then by (place_at key places) (marking key);
    })

abbrev pub FetchesMarked : {State : Type 0} → Marker State → MarkedNode → (count : ℕ) → FetchedSoFar → (Key → Marking) → List Outgoing → MarkedNode → Type 0
FetchesMarked by node count now marking sent after = Continues by node count now marking (next_question node.plain.boot count now) sent after

-- Turns

abbrev pub is_tick_input : Input → Bool
is_tick_input Tick_comes = true
is_tick_input _ = false

-- a turn of a server that serves: as without marks, and with the marks of each connection that the input concerns
pub record ServesMarked {State : Type 0} (by : Marker State) (node : MarkedNode) (input : Input) (opened : ℕ) (before after : List Place) (marking : Key
    → Marking) (sent : List Outgoing) : Type 0 where
  pub went : List Place
  pub by_places : List Outgoing
  pub all_go : AllGoMarked
      (GoesMarked (PlaceTurn by.service node.plain input)
      (λ place. if concerns node.plain input (key_of place) then marks_at by node.plain.boot (is_tick_input input) node.marking place
      else [])) before went by_places
  pub places : after ≡ went ++ newcomers node.plain input opened before
  pub marking_is : marking
      ≡ (λ key. if concerns node.plain input key then marking_then by (place_at key went) (node.marking key) else node.marking key)
  pub packets : sent ≡ by_places ++ map Plain (refusals node.plain input before ++ flat_map (opens_at node.plain input) after)

-- a turn on anything but a message about marks, by the stage before it. It differs from the turn without marks while the server fetches and while it serves
abbrev pub PlainTurn : {State : Type 0} → Marker State → MarkedNode → Stage → Input → List Outgoing → MarkedNode → Type 0
PlainTurn by before (Fetching count fetched) Tick_comes sent after =
    (sent ≡ map outgoing (option_to_list (next_question before.plain.boot count (so_far before fetched)))) × (after ≡ before)
PlainTurn by before (Fetching count fetched) (Message_comes message) sent after =
    MatchOption (fetched_on (nat_lt 0 by.every) before.plain.boot count message (so_far before fetched)) (RestsMarked before sent after)
    (λ now. FetchesMarked by before count now before.marking sent after)
PlainTurn by before (Serving opened places) input sent after =
    (later : List Place) × (marking : Key → Marking) × ServesMarked by before input opened places later marking sent
    × (after ≡ record (with_stage (Serving (opened + length (newcomers before.plain input opened places)) later) before) { marking = marking })
PlainTurn by before stage input sent after =
    (next : Stage) × (packets : List Packet) × StageTurn by.service before.plain stage input next packets × (sent ≡ map Plain packets)
    × (after ≡ with_stage next before)

-- .. unless the input fences the server
abbrev pub UnlessFenced : {State : Type 0} → Marker State → MarkedNode → Input → Option ℕ → List Outgoing → MarkedNode → Type 0
UnlessFenced by before input (Some newer) sent after = (sent ≡ []) × (after ≡ with_stage (Fenced newer) before)
UnlessFenced by before input None sent after = PlainTurn by before before.plain.stage input sent after

abbrev pub live_at : Option Place → Option Point
live_at (Some (Lives p)) = Some p
live_at _ = None

-- an answer to a mark, at the live connection that it names
abbrev pub ReceivesOfMark : {State : Type 0} → Marker State → MarkedNode → List Place → MarkBody → List Outgoing → MarkedNode → Type 0
ReceivesOfMark by before places (MarkedMsg key reads) sent after =
    MatchOption (live_at (place_at key places)) (RestsMarked before sent after)
    (λ p. (m : Marking) × MarkedTurn by.service by.writing by.every before.plain.boot reads p (before.marking p.key) m sent
    × (after ≡ record before { marking = with_marking p.key m before.marking }))
ReceivesOfMark by before places _ sent after = RestsMarked before sent after

-- A turn on a message about marks, by the stage before it. While the server fetches, what is below the reported mark, `bytes` and `lengths`, counts as
-- fetched
abbrev pub MarkTurn : {State : Type 0} → Marker State → (bytes lengths : List ℕ) → MarkedNode → Stage → MarkMessage → List Outgoing → MarkedNode → Type 0
MarkTurn by bytes lengths before (Fetching count fetched) message sent after =
    MatchOption (mark_reported by.writing before.plain.boot message (so_far before fetched)) (RestsMarked before sent after)
    (λ m. FetchesMarked by before count (begun_on bytes lengths (so_far before fetched)) (marking_fetched message.body before.marking) sent after)
MarkTurn by bytes lengths before (Serving opened places) message sent after =
    MatchBool (message.boot == before.plain.boot) (ReceivesOfMark by before places message.body sent after) (RestsMarked before sent after)
MarkTurn by bytes lengths before stage message sent after = RestsMarked before sent after

abbrev pub InputTurn : {State : Type 0} → Marker State → (bytes lengths : List ℕ) → MarkedNode → MarkedInput → List Outgoing → MarkedNode → Type 0
InputTurn by bytes lengths before (Plain_comes input) sent after = UnlessFenced by before input (fence before.plain input) sent after
InputTurn by bytes lengths before (Mark_comes message) sent after = MarkTurn by bytes lengths before before.plain.stage message sent after

-- One turn of an incarnation that marks. A fenced incarnation has no further turn
pub record LawfulMarkedTurn {State : Type 0} (by : Marker State) (bytes lengths : List ℕ) (before : MarkedNode) (input : MarkedInput) (sent : List Outgoing)
    (after : MarkedNode) : Type 0 where
  pub live : is_fenced before.plain.stage ≡ false
  pub turn : InputTurn by bytes lengths before input sent after
