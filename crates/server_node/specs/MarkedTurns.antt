-- The turn of a node that marks, by the law of such a node.
use Rattle.std.specs.Prelude.{◌≡◌, ℕ, ◌<◌, Bool, true, false, nat_lt, Option, Some, None, IfSome, List, [], ◌∷◌, map, Result, Ok, Err}
use Rattle.std.specs.List.{AllByRecursion}
use Rattle.ft_io.specs.declared.Key.{Key}
use Rattle.seq_arith.specs.declared.kinds.Grammar.{Grammar}
use Rattle.seq_arith.specs.Mark.{Mark, MarkBody, MarkMessage}
use Rattle.seq_arith.specs.Mark.MarkBody.{HeldMsg}
use Rattle.seq_arith.specs.Message.{Body}
use Rattle.seq_arith.specs.Message.Body.{PartMsg}
use Rattle.seq_arith.specs.PacketGrammar as packets
use Rattle.seq_arith.specs.declared.mark.BadMark.{BadMark}
use Rattle.server_trait.specs.Service.{AreBytes}
use Rattle.server_trait.specs.declared.Service.{Ghosts}
use Rattle.tcp_rules.specs.Profile.{grammar_of}
use Rattle.ft_model.specs.Lawful.{AreSound, IsNearInput, IsSoundInput, fence}
use Rattle.ft_model.specs.Node.{Stage as law_stage}
use Rattle.ft_model.specs.Node.Input.{Message_comes, Noise_comes, Tick_comes}
use Rattle.ft_model.specs.Node.Stage.{Asking, Fetching, Serving}
use Rattle.ft_model.specs.Restart.{Fetched}
use Rattle.ft_model.specs.Wire.{Wire}
use Rattle.ft_model.specs.World.{segment_or_noise}
use Rattle.mark_laws.specs.MarkedLog.{AnyMessage}
use Rattle.mark_laws.specs.MarkedLog.AnyMessage.{About_mark, Of_log}
use Rattle.mark_laws.specs.Marking.{Marking, Outgoing}
use Rattle.mark_laws.specs.Restart.{FetchedSoFar, IsFront, begun_on, mark_reported}
use Rattle.mark_laws.specs.MarkedNode.{Marker, MarkedNode, MarkedInput, InputTurn, LawfulMarkedTurn, FetchesMarked, so_far, outgoing}
use Rattle.mark_laws.specs.MarkedNode.MarkedInput.{Plain_comes, Mark_comes}
use Rattle.mark_laws.specs.MarkedWorld.{said_by, input_of}
use Rattle.reincarnate.specs.Marking.{uses}
use Rattle.reincarnate.specs.Questions.{FetchingState}
use Rattle.reincarnate.specs.Refinement.{StandsSoFar}
use Rattle.conn_marks.specs.KeyMarks.{KeyMarks, Changes}
use Rattle.node_serving.specs.declared.identity.Identity.{Identity}
use Rattle.server_node.specs.declared.input.Input.{Input}
use Rattle.server_node.specs.declared.input.Input.TheVariants as input
use Rattle.server_node.specs.declared.marked.Marked.{Marked}
use Rattle.server_node.specs.declared.marked.MarkedStage.{MarkedStage}
use Rattle.server_node.specs.declared.marked.MarkedStage.TheVariants as marked
use Rattle.server_node.specs.declared.node.Node.{Node}
use Rattle.server_node.specs.declared.stage.Stage.{Stage}
use Rattle.server_node.specs.declared.stage.Stage.TheVariants as stage
use Rattle.server_node.specs.FetchStage.{AreDistinct}
use Rattle.node_serving.specs.Identity.{node_of, grammar_in}
use Rattle.server_node.specs.Marked.{AreApart}
use Rattle.server_node.specs.MarkedApart.{MarkedTurnsApart, StageTurnsApart}
use Rattle.server_node.specs.MarkedNumbers.{AllNumberedAt, AllNumberedMarked, fetched_by_marked}
use Rattle.server_node.specs.MarkedRestart.{AllBytes}
use Rattle.conn_marks.specs.MarkSends.{AreOut, outgoing_wire, HasOutgoingWire}
use Rattle.conn_marks.specs.Settled.{Keeps, AllSettled}
use Rattle.node_serving.specs.Markers.{Saving, marker_of, node_at}
use Rattle.node_serving.specs.ServingStage.{ServingStands}

-- what arrives, as the law's input: bytes that no codec reads are noise
abbrev pub marked_input_of : Grammar → Input → MarkedInput
marked_input_of grammar (input.Packet bytes) = Plain_comes (segment_or_noise (packets.reading bytes.now))
marked_input_of grammar (input.Message bytes) = input_of (said_by grammar bytes.now)
marked_input_of grammar input.Tick = Plain_comes Tick_comes

-- the input for bytes that are no message of the log
abbrev pub received_of : Result MarkMessage BadMark → MarkedInput
received_of (Ok message) = Mark_comes message
received_of (Err bad) = Plain_comes Noise_comes

abbrev pub input_of_any : AnyMessage → MarkedInput
input_of_any (Of_log message) = Plain_comes (Message_comes message)
input_of_any (About_mark message) = Mark_comes message

-- how a node that fetches corresponds to the law's
pub record FetchingStandsMarked {S : Type 0} (by : Marker S) (count : ℕ) (now : FetchedSoFar) (f : FetchingState S) : Type 0 where
  pub so_many : f.count ≡ count
  pub distinct : AreDistinct now.entries
  pub entries : StandsSoFar by.service now f
  pub uses_marks : uses f.marks ≡ nat_lt 0 by.every
  pub bytes : AllBytes now.entries

abbrev pub StageStandsMarked : {S : Type 0} → Marker S → MarkedNode → law_stage → MarkedStage S → Type 0
StageStandsMarked by node Asking marked.Asking = node.awaits_mark ≡ false
StageStandsMarked by node (Fetching count fetched) (marked.Fetching f) = FetchingStandsMarked by count (so_far node fetched) f
StageStandsMarked by node (Serving opened places) (marked.Serving s) = ServingStands by.service node.plain opened places s × AllSettled by node.marking places
StageStandsMarked by node _ _ = ⊥

pub record MarkedStands {S : Type 0} (by : Marker S) (node : MarkedNode) (at : Marked S) : Type 0 where
  pub keeps : Keeps by node.marking at.marks
  pub stage : StageStandsMarked by node node.plain.stage at.stage

-- The premises of its turn. As without marks a packet is near and what is fetched is sound; ..
abbrev pub IsNearMarked : MarkedNode → MarkedInput → Type 0
IsNearMarked node (Plain_comes i) = IsNearInput node.plain.server i node.plain.stage
IsNearMarked node (Mark_comes message) = Unit {0}

abbrev pub IsSoundMarkedInput : {S : Type 0} → Marker S → MarkedNode → MarkedInput → Type 0
IsSoundMarkedInput by node (Plain_comes i) = IsSoundInput by.service node.plain i node.plain.stage
IsSoundMarkedInput by node (Mark_comes message) = Unit {0}

-- .. and if marks are made, these bytes and lengths are below the mark that comes, and what is then fetched is sound
pub record IsSoundStart {S : Type 0} (by : Marker S) (bytes lengths : List ℕ) (before : FetchedSoFar) (m : Mark) : Type 0 where
  pub front : IsFront by.service by.writing m bytes lengths
  pub bytes_are : AreBytes bytes
  pub whole : AreSound by.service (begun_on bytes lengths before).entries

abbrev pub IsSoundBelow : {S : Type 0} → Marker S → (bytes lengths : List ℕ) → MarkedNode → law_stage → MarkedInput → Type 0
IsSoundBelow by bytes lengths node (Fetching count fetched) (Mark_comes message) =
    IfSome (mark_reported by.writing node.plain.boot message (so_far node fetched)) (IsSoundStart by bytes lengths (so_far node fetched))
IsSoundBelow by bytes lengths node _ _ = Unit {0}

pub record IsFairTo {S : Type 0} (by : Marker S) (bytes lengths : List ℕ) (node : MarkedNode) (i : MarkedInput) : Type 0 where
  pub near : IsNearMarked node i
  pub sound : IsSoundMarkedInput by node i
  pub mark : 0 < by.every → IsSoundBelow by bytes lengths node node.plain.stage i

abbrev pub IsUnfencedMarked : MarkedNode → MarkedInput → Type 0
IsUnfencedMarked node (Plain_comes i) = fence node.plain i ≡ None
IsUnfencedMarked node (Mark_comes message) = Unit {0}

-- the node corresponds to a state to which this law leads, having restored these entries if it serves then, and sends what the law says
pub record Proceeds {S : Type 0} (by : Marker S) (who : Identity) (restored : List Fetched) (Goes : List Outgoing → MarkedNode
    → Type 0) (now : Marked S) (lent : List Wire) : Type 0 where
  pub standing : law_stage
  pub awaits : Bool
  pub marking : Key → Marking
  pub sent : List Outgoing
  pub stands : MarkedStands by (node_at who standing awaits marking) now
  pub goes : Goes sent (node_at who standing awaits marking)
  pub numbers : AllNumberedAt by.service who.isn restored now.stage
  pub out : AreOut (grammar_in who) sent [] lent

-- .. by the law of this input, or of what is fetched so far
abbrev pub TurnsOn : {S : Type 0} → Marker S → Identity → (bytes lengths : List ℕ) → MarkedNode → MarkedInput → (now : Marked S) → (lent : List Wire) → Type 0
TurnsOn by who bytes lengths node i now lent =
    Proceeds by who (fetched_by_marked by bytes lengths node node.plain.stage i) (InputTurn by bytes lengths node i) now lent

abbrev pub FetchesOn : {S : Type 0} → Marker S → Identity → MarkedNode → (count : ℕ) → FetchedSoFar → (Key → Marking) → (now : Marked S)
    → (lent : List Wire) → Type 0
FetchesOn by who node count so_far marking now lent = Proceeds by who so_far.entries (FetchesMarked by node count so_far marking) now lent

-- what is stored of the marks once a message is taken
abbrev pub marking_noted : MarkBody → KeyMarks → KeyMarks → Type 0
marking_noted (HeldMsg key m) was now = Changes key (record { last = m.reads; outstanding = None }) was now
marking_noted _ was now = now ≡ was

abbrev pub Notes : AnyMessage → KeyMarks → KeyMarks → Type 0
Notes (About_mark message) was now = marking_noted message.body was now
Notes (Of_log message) was now = now ≡ was

-- the bytes that a Part has fit their type
abbrev pub BodyBytes : Body → Type 0
BodyBytes (PartMsg key offset bytes) = AreBytes bytes
BodyBytes _ = Unit {0}

abbrev pub IsPartBytes : AnyMessage → Type 0
IsPartBytes (Of_log message) = BodyBytes message.body
IsPartBytes (About_mark message) = Unit {0}

-- the question is sent, if there is one
abbrev pub SendsQuestion : Grammar → Option AnyMessage → Bool → (old new : List Wire) → Type 0
SendsQuestion grammar (Some question) asks old new = (asks ≡ true) × AreOut grammar (outgoing question ∷ []) old new
SendsQuestion grammar None asks old new = (asks ≡ false) × (new ≡ old)

-- for a service, given by its ghost members, and an incarnation
module _ {S : Type 0} (s : Ghosts S) (v : Saving S) (who : Identity) where
  abbrev pub MarkedTurns : MarkedInput → (was now : Marked S) → (sent : List Wire) → Type 0
  MarkedTurns i was now sent =
      (every : ℕ) (standing : law_stage) (awaits : Bool) (marking : Key → Marking) (bytes lengths : List ℕ)
      → IsUnfencedMarked (node_at who standing awaits marking) i → IsFairTo (marker_of s v who every) bytes lengths (node_at who standing awaits marking) i
      → MarkedStands (marker_of s v who every) (node_at who standing awaits marking) was
      → TurnsOn (marker_of s v who every) who bytes lengths (node_at who standing awaits marking) i now sent

  abbrev pub BytesTurnMarked : Result MarkMessage BadMark → (was now : Marked S) → (sent : List Wire) → Type 0
  BytesTurnMarked read was now sent = MarkedTurns (received_of read) was now sent

  -- what is missing is asked for. Once nothing is, the log is restored
  abbrev pub FetchesOnMarked : (was : FetchingState S) → KeyMarks → (now : Marked S) → (sent : List Wire) → Type 0
  FetchesOnMarked was marks now sent =
      (every : ℕ) (standing : law_stage) (awaits : Bool) (before marking : Key → Marking) (count : ℕ) (fetched : FetchedSoFar)
      → Keeps (marker_of s v who every) marking marks
      → FetchingStandsMarked (marker_of s v who every) count fetched was → AreSound (marker_of s v who every).service fetched.entries
      → FetchesOn (marker_of s v who every) who (node_at who standing awaits before) count fetched marking now sent

  -- the turn of a stage. A node that marks follows its own law, and leaves others alone
  abbrev pub IsTurnMarked : MarkedInput → (was now : Stage S) → (sent : List Wire) → Type 0
  IsTurnMarked i (stage.Marked was) (stage.Marked now) sent = MarkedTurns i was now sent × MarkedTurnsApart s who i was now sent
  IsTurnMarked i (stage.Marked was) _ sent = ⊥
  IsTurnMarked i _ now sent = Unit {0}

-- no key of a node that marks has two slots
abbrev pub HasSlotsApart : {S : Type 0} → Stage S → Type 0
HasSlotsApart (stage.Marked at) = AreApart at.stage
HasSlotsApart _ = Unit {0}

-- how a node that marks corresponds to the law's: its stage, and the whole node

abbrev pub NodeStandsAt : {S : Type 0} → Marker S → MarkedNode → Stage S → Type 0
NodeStandsAt by node (stage.Marked at) = MarkedStands by node at
NodeStandsAt by node _ = ⊥

pub record MarkedNodeStands {S : Type 0} {s : Ghosts S} (by : Marker S) (node : MarkedNode) (n : Node S s) : Type 0 where
  pub who : node.plain ≡ node_of n.who node.plain.stage
  pub stage : NodeStandsAt by node n.stage

-- its turn: it corresponds to a state to which the law's turn leads, and the packets that it returns are those that the law says it sends, each in its one
-- spelling. If the turn ends a restart, the inner TCP of the nth restored connection has the nth initial sequence number of this incarnation
pub record MarkedNodeGoes {S : Type 0} {s : Ghosts S} (by : Marker S) (bytes lengths : List ℕ) (node : MarkedNode) (i : MarkedInput) (now : Node S s)
    (lent : List Wire) : Type 0 where
  pub after : MarkedNode
  pub sent : List Outgoing
  pub stands : MarkedNodeStands by after now
  pub turn : LawfulMarkedTurn by bytes lengths node i sent after
  pub numbers : AllNumberedMarked by.service node.plain.isn (fetched_by_marked by bytes lengths node node.plain.stage i) now.stage
  pub wires : lent ≡ map (outgoing_wire (grammar_of node.plain.profile)) sent
  pub spelled : AllByRecursion (HasOutgoingWire (grammar_of node.plain.profile)) sent

-- .. from any state of the law to which it corresponds, under the premises, whatever is below the mark that comes
abbrev pub MarkedNodeTurns : {S : Type 0} {s : Ghosts S} → Saving S → MarkedInput → (was now : Node S s) → (lent : List Wire) → Type 0
MarkedNodeTurns {S} {s} v i was now lent =
    (every : ℕ) (node : MarkedNode) (bytes lengths : List ℕ) → IsFairTo (marker_of s v was.who every) bytes lengths node i
    → MarkedNodeStands (marker_of s v was.who every) node was → MarkedNodeGoes (marker_of s v was.who every) bytes lengths node i now lent

-- .. and what holds of it whatever arrives
abbrev pub MarkedNodeApart : {S : Type 0} {s : Ghosts S} → MarkedInput → (was now : Node S s) → (lent : List Wire) → Type 0
MarkedNodeApart {S} {s} i was now lent = StageTurnsApart s was.who i was.stage now.stage lent
