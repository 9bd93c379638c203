-- A turn at each stage of a node: it leaves others alone, each key has its turn, and an input that is for nobody here changes nothing.
use Rattle.std.specs.Prelude.{◌≡◌, ◌==◌, not, Bool, true, false, Option, None, List, []}
use Rattle.std.specs.List.{AllByRecursion}
use Rattle.ft_io.specs.declared.Key.{Key}
use Rattle.seq_arith.specs.declared.kinds.Grammar.{Grammar}
use Rattle.server_trait.specs.Service.{Machine}
use Rattle.tcp_rules.specs.Profile.{grammar_of}
use Rattle.ft_model.specs.Network.{source_of}
use Rattle.ft_model.specs.Node.{Node, Input, is_for}
use Rattle.ft_model.specs.Node.Input.{Packet_comes, Message_comes, Noise_comes, Tick_comes}
use Rattle.ft_model.specs.Wire.{Wire}
use Rattle.reincarnate.specs.Questions.{FetchingState}
use Rattle.node_serving.specs.declared.slot.Slot.{Slot}
use Rattle.server_node.specs.declared.stage.Stage.{Stage}
use Rattle.server_node.specs.declared.stage.Stage.TheVariants as stage
use Rattle.node_serving.specs.Ownership.{IsFor}
use Rattle.node_serving.specs.Alone.{slot_of, LeavesOthers, GoAlone}
use Rattle.node_serving.specs.Clients.{KnowsOn}

-- a node that doesn't serve has nothing
abbrev pub slot_in : {S : Type 0} → Key → Stage S → Option (Slot S)
slot_in key (stage.Serving s) = slot_of key s
slot_in key _ = None

-- while the log is fetched, a packet changes nothing, and only its sender gets an answer
abbrev pub HoldsOthers : {S : Type 0} → Grammar → Input → FetchingState S → Stage S → List Wire → Type 0
HoldsOthers grammar (Packet_comes segment) was now sent = (now ≡ stage.Fetching was) × AllByRecursion (IsFor grammar (source_of segment)) sent
HoldsOthers grammar _ was now sent = Unit {0}

-- a node's turn leaves others alone. Where it serves before the turn, it serves after it
abbrev pub Others : {S : Type 0} → Node → Input → (was now : Stage S) → List Wire → Type 0
Others node input (stage.Serving was) (stage.Serving now) sent = LeavesOthers node input was now sent
Others node input (stage.Serving was) _ sent = ⊥
Others node input (stage.Fetching was) now sent = HoldsOthers (grammar_of node.profile) input was now sent
Others node input _ _ sent = Unit {0}

abbrev pub Alone : {S : Type 0} → Machine S → Node → Input → (was now : Stage S) → List Wire → Type 0
Alone service node input (stage.Serving was) (stage.Serving now) sent = GoAlone service node input was now sent
Alone service node input (stage.Serving was) _ sent = ⊥
Alone service node input _ _ sent = Unit {0}

-- while it serves, what it knows of its clients and their openings follows from what arrives. Of a node that marks nothing is said
abbrev pub KnowsTurn : {S : Type 0} → Node → Input → (was now : Stage S) → Type 0
KnowsTurn node input (stage.Serving was) (stage.Serving now) = KnowsOn node input was now
KnowsTurn node input (stage.Serving was) _ = ⊥
KnowsTurn node input _ _ = Unit {0}

-- what arrives is for nobody here: bytes that spell nothing, a packet for another server, a message of another boot
abbrev pub is_for_nobody : Node → Input → Bool
is_for_nobody node (Packet_comes segment) = not (is_for node.server segment)
is_for_nobody node (Message_comes message) = not (message.boot == node.boot)
is_for_nobody node Noise_comes = true
is_for_nobody node Tick_comes = false

-- it changes nothing, and nothing is sent. For a node that marks `MarkedApart` says so
abbrev pub IsUntouched : {S : Type 0} → Node → Input → (was now : Stage S) → List Wire → Type 0
IsUntouched node input (stage.Marked m) now sent = Unit {0}
IsUntouched node input was now sent = is_for_nobody node input ≡ true → (now ≡ was) × (sent ≡ [])
