-- How a server that lasts corresponds to that of the law, and its turn by the law.
use Rattle.std.specs.Prelude.{◌≡◌, ℕ, false, map, ◌++◌, Option, None, List, Result, Ok, Err, if◌then◌else◌}
use Rattle.std.specs.List.{AllByRecursion}
use Rattle.std.specs.Map.{lookup}
use Rattle.ft_io.specs.declared.Key.{Key}
use Rattle.ft_io.specs.Key.{key_eq}
use Rattle.seq_arith.specs.PacketGrammar as packets
use Rattle.seq_arith.specs.MessageGrammar as messages
use Rattle.seq_arith.specs.declared.kinds.BadMsg.{BadMsg}
use Rattle.seq_arith.specs.declared.kinds.Grammar.{Grammar}
use Rattle.tcp_rules.specs.Profile.{grammar_of}
use Rattle.server_trait.specs.Service.{Machine}
use Rattle.server_trait.specs.declared.Service.{Ghosts}
use Rattle.ft_model.specs.Keys.{AreDistinct}
use Rattle.ft_model.specs.Lawful.{IsNearInput, IsSoundInput, LawfulTurn, fence}
use Rattle.ft_model.specs.Network.{Packet}
use Rattle.ft_model.specs.Node.{Node, Input, key_of}
use Rattle.ft_model.specs.Node.Input.{Tick_comes}
use Rattle.ft_model.specs.Wire.{Wire, wire_by, HasWireBy}
use Rattle.ft_model.specs.Wire.Party.{The_server, The_logger}
use Rattle.ft_model.specs.World.{segment_or_noise, message_or_noise}
use Rattle.long_laws.specs.Forgetting.{ForgetMessage}
use Rattle.long_laws.specs.ForgetGrammar as forgets
use Rattle.long_laws.specs.LongTrace.{places_at}
use Rattle.long_laws.specs.Quarantine.{is_dropped}
use Rattle.lasting_laws.specs.Closing.{ended_by}
use Rattle.lasting_laws.specs.LastingTurn as law
use Rattle.lasting_laws.specs.LastingTurn.{Patience, LastingInput, LastingSent, LastingTurn}
use Rattle.lasting_laws.specs.LastingTurn.LastingInput.{Usual_comes, Forget_comes}
use Rattle.server_node.specs.Stages.{StageStands}
use Rattle.server_node.specs.StageTurns.{IsUnfenced, IsFenceOf}
use Rattle.server_node.specs.declared.input.TurnEnd.{TurnEnd}
use Rattle.server_node.specs.declared.input.Input as node_input
use Rattle.server_node.specs.declared.input.Input.TheVariants as input
use Rattle.node_serving.specs.Identity.{node_of, service_of}
use Rattle.node_serving.specs.declared.identity.Identity.{Identity}
use Rattle.lasting_lives.specs.Known.{LivesStand}
use Rattle.lasting_lives.specs.declared.life.Life.{Life}
use Rattle.lasting_node.specs.declared.node.LastingNode.{LastingNode}
use Rattle.lasting_node.specs.declared.patience.Patience as waits

abbrev pub patience_of : waits.Patience → Patience
patience_of patience = record { wait = patience.wait; silence = patience.silence }

-- what arrives, as the law's input. Messages of the log are in the grammar of the profile
abbrev pub message_input : Grammar → Result ForgetMessage BadMsg → List ℕ → LastingInput
message_input grammar (Ok message) bytes = Forget_comes message
message_input grammar (Err bad) bytes = Usual_comes (message_or_noise (messages.reading_by grammar bytes))

abbrev pub message_said : Grammar → List ℕ → LastingInput
message_said grammar bytes = message_input grammar (forgets.reading bytes) bytes

abbrev pub lasting_input_of : Grammar → node_input.Input → LastingInput
lasting_input_of grammar (input.Packet bytes) = Usual_comes (segment_or_noise (packets.reading bytes.now))
lasting_input_of grammar (input.Message bytes) = message_said grammar bytes.now
lasting_input_of grammar input.Tick = Usual_comes Tick_comes

-- what it knows of a key
abbrev pub known_of : {S : Type 0} {s : Ghosts S} → LastingNode S s → Key → Option Life
known_of now key = lookup (key_eq key) now.lives

-- the whole server
pub record LastingStands {S : Type 0} {s : Ghosts S} (service : Machine S) (n : law.LastingNode) (now : LastingNode S s) : Type 0 where
  pub who : n.node ≡ node_of now.node.who n.node.stage
  pub stage : StageStands service n.node now.node.stage
  pub lives : LivesStand n n.node.stage (known_of now)
  pub apart : AreDistinct (map (λ q. q.named.key) n.quarantine)

-- a Forget on its way to the logger
abbrev pub forget_wire : ForgetMessage → Wire
forget_wire message = record { from = The_server; to = The_logger; bytes = forgets.spelling message }

-- what it sends, as the network sees it
abbrev pub wires_of_sent : Grammar → LastingSent → List Wire
wires_of_sent grammar sent = map (wire_by grammar) sent.packets ++ map forget_wire sent.forgets

-- The premises of its turn are those of its node's, where its node takes one
pub record IsFairLasting {S : Type 0} (service : Machine S) (patience : Patience) (n : law.LastingNode) (input : Input) : Type 0 where
  pub near : is_dropped patience.wait n.node.server input n.quarantine ≡ false → ended_by n.node.server n.ends input n.quarantine ≡ None
      → IsNearInput n.node.server input n.node.stage
  pub sound : IsSoundInput service n.node input n.node.stage
  pub unfenced : fence n.node input ≡ None

abbrev pub IsFairTo : {S : Type 0} → Machine S → Patience → law.LastingNode → LastingInput → Type 0
IsFairTo service patience n (Usual_comes input) = IsFairLasting service patience n input
IsFairTo service patience n (Forget_comes message) = Unit {0}

-- its node takes a turn: one without quarantine. No key of the node has two places, before or after it
pub record NodeWent {S : Type 0} {s : Ghosts S} (service : Machine S) (n : law.LastingNode) (input : Input) (now : LastingNode S s) : Type 0 where
  pub later : Node
  pub packets : List Packet
  pub turn : LawfulTurn service n.node input packets later
  pub who : later ≡ node_of now.node.who later.stage
  pub stands : StageStands service later now.node.stage
  pub before : AreDistinct (map key_of (places_at n.node.stage))
  pub apart : AreDistinct (map key_of (places_at later.stage))
  pub wires : now.node.turn.sent.items ≡ map (wire_by (grammar_of n.node.profile)) packets
  pub spelled : AllByRecursion (HasWireBy (grammar_of n.node.profile)) packets

-- its node corresponds to that of the law, whatever it knows of its keys
pub record OwnNodeStands {S : Type 0} {s : Ghosts S} (service : Machine S) (n : law.LastingNode) (now : LastingNode S s) : Type 0 where
  pub who : n.node ≡ node_of now.node.who n.node.stage
  pub stage : StageStands service n.node now.node.stage

abbrev pub NodeProceeds : {S : Type 0} {s : Ghosts S} → Input → (was now : LastingNode S s) → Type 0
NodeProceeds {S} {s} input was now =
    (n : law.LastingNode) → IsNearInput n.node.server input n.node.stage → IsSoundInput (service_of s was.node.who) n.node input n.node.stage
    → OwnNodeStands (service_of s was.node.who) n was → NodeWent (service_of s was.node.who) n input now

-- nothing else changes
pub record GoesAlone {S : Type 0} {s : Ghosts S} (was now : LastingNode S s) : Type 0 where
  pub who : now.node.who ≡ was.node.who
  pub patience : now.patience ≡ was.patience
  pub lives : now.lives ≡ was.lives
  pub own : now.own ≡ was.own
  pub is_own : now.is_own ≡ was.is_own

-- a turn by the law
pub record LastingGoes {S : Type 0} {s : Ghosts S} (service : Machine S) (n : law.LastingNode) (i : LastingInput) (was now : LastingNode S s)
    (sent : List Wire) : Type 0 where
  pub after : law.LastingNode
  pub packets : LastingSent
  pub stands : LastingStands service after now
  pub turn : LastingTurn service (patience_of was.patience) n i packets after
  pub wires : sent ≡ wires_of_sent (grammar_of n.node.profile) packets
  pub spelled : AllByRecursion (HasWireBy (grammar_of n.node.profile)) packets.packets

abbrev pub LastingTurns : {S : Type 0} {s : Ghosts S} → LastingInput → (was now : LastingNode S s) → List Wire → Type 0
LastingTurns {S} {s} i was now sent =
    (n : law.LastingNode) → IsFairTo (service_of s was.node.who) (patience_of was.patience) n i → LastingStands (service_of s was.node.who) n was
    → LastingGoes (service_of s was.node.who) n i was now sent

-- what it has sent in its last turn
abbrev pub sent_by : {S : Type 0} {s : Ghosts S} → LastingNode S s → List Wire
sent_by n = if n.is_own then n.own.sent.items else n.node.turn.sent.items

-- how an input fences it: as its node, and never by a message about forgetting
abbrev pub IsUnfencedLasting : Identity → LastingInput → Type 0
IsUnfencedLasting who (Usual_comes i) = IsUnfenced who i
IsUnfencedLasting who (Forget_comes message) = Unit {0}

abbrev pub IsFenceOfLasting : Identity → LastingInput → TurnEnd → Type 0
IsFenceOfLasting who (Usual_comes i) end = IsFenceOf who i end
IsFenceOfLasting who (Forget_comes message) end = ⊥
