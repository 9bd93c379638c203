-- What holds of the turn of a node that marks whatever arrives, in whatever state its connections are.
use Rattle.std.specs.Prelude.{◌≡◌, ◌==◌, not, Bool, true, List, []}
use Rattle.std.specs.List.{AllByRecursion}
use Rattle.seq_arith.specs.declared.kinds.Grammar.{Grammar}
use Rattle.server_trait.specs.Service.{Machine}
use Rattle.server_trait.specs.declared.Service.{Ghosts}
use Rattle.tcp_rules.specs.Profile.{grammar_of}
use Rattle.ft_model.specs.Network.{source_of}
use Rattle.ft_model.specs.Node.{Node, Stage as law_stage}
use Rattle.ft_model.specs.Node.Input.{Packet_comes}
use Rattle.ft_model.specs.Wire.{Wire}
use Rattle.mark_laws.specs.MarkedNode.{MarkedInput}
use Rattle.mark_laws.specs.MarkedNode.MarkedInput.{Plain_comes, Mark_comes}
use Rattle.reincarnate.specs.Questions.{FetchingState}
use Rattle.conn_marks.specs.KeyMarks.{KeyMarks}
use Rattle.node_serving.specs.declared.identity.Identity.{Identity}
use Rattle.server_node.specs.declared.marked.Marked.{Marked}
use Rattle.server_node.specs.declared.marked.MarkedStage.{MarkedStage}
use Rattle.server_node.specs.declared.marked.MarkedStage.TheVariants as marked
use Rattle.server_node.specs.declared.stage.Stage.{Stage}
use Rattle.server_node.specs.declared.stage.Stage.TheVariants as stage
use Rattle.node_serving.specs.Identity.{node_of, service_of}
use Rattle.node_serving.specs.MarkedAlone.{GoesBesideMarks}
use Rattle.node_serving.specs.Ownership.{IsFor}
use Rattle.server_node.specs.StageAlone.{is_for_nobody}

-- what arrives is for nobody here: as without marks, or a message about marks of another boot
abbrev pub is_for_nobody_marked : Node → MarkedInput → Bool
is_for_nobody_marked node (Plain_comes input) = is_for_nobody node input
is_for_nobody_marked node (Mark_comes message) = not (message.boot == node.boot)

-- while the log is fetched, a packet changes nothing, and only its sender gets an answer
abbrev pub HoldsOthersMarked : {S : Type 0} → Grammar → MarkedInput → FetchingState S → KeyMarks → MarkedStage S → KeyMarks → List Wire → Type 0
HoldsOthersMarked grammar (Plain_comes (Packet_comes segment)) was marks now later sent =
    (now ≡ marked.Fetching was) × (later ≡ marks) × AllByRecursion (IsFor grammar (source_of segment)) sent
HoldsOthersMarked grammar _ was marks now later sent = Unit {0}

-- a turn leaves others alone. Where the node serves before it, it serves after it, and each key has its turn
abbrev pub OthersMarked : {S : Type 0} → Machine S → Node → MarkedInput → (was : MarkedStage S) → KeyMarks → (now : MarkedStage S) → KeyMarks → List Wire
    → Type 0
OthersMarked service node i (marked.Serving was) marks (marked.Serving now) later sent = GoesBesideMarks service node i was now marks later [] sent
OthersMarked service node i (marked.Serving was) marks _ later sent = ⊥
OthersMarked service node i (marked.Fetching was) marks now later sent = HoldsOthersMarked (grammar_of node.profile) i was marks now later sent
OthersMarked service node i marked.Asking marks now later sent = Unit {0}

-- a turn leaves others alone, and an input that is for nobody here changes nothing
pub record MarkedApart {S : Type 0} (service : Machine S) (node : Node) (i : MarkedInput) (was now : Marked S) (sent : List Wire) : Type 0 where
  pub others : OthersMarked service node i was.stage was.marks now.stage now.marks sent
  pub untouched : is_for_nobody_marked node i ≡ true → (now ≡ was) × (sent ≡ [])

-- for a service, given by its ghost members, and an incarnation
abbrev pub MarkedTurnsApart : {S : Type 0} → Ghosts S → Identity → MarkedInput → (was now : Marked S) → (sent : List Wire) → Type 0
MarkedTurnsApart s who i was now sent = (standing : law_stage) → MarkedApart (service_of s who) (node_of who standing) i was now sent

-- of a stage: a node that marks goes on marking
abbrev pub StageTurnsApart : {S : Type 0} → Ghosts S → Identity → MarkedInput → (was now : Stage S) → (sent : List Wire) → Type 0
StageTurnsApart s who i (stage.Marked was) (stage.Marked now) sent = MarkedTurnsApart s who i was now sent
StageTurnsApart s who i (stage.Marked was) _ sent = ⊥
StageTurnsApart s who i _ now sent = Unit {0}
