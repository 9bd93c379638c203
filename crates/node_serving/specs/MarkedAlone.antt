-- What a turn of a node that marks leaves alone while it serves, whatever arrives and in whatever state its connections are. But for its marks it is a turn
-- of a node without marks: each key has its turn as in a server with this key alone. Each mark among what it sends is about a key that the input is about.
use Rattle.std.specs.Prelude.{◌≡◌, ◌⊎◌, ◌==◌, ◌&&◌, ℕ, Bool, true, false, List, [], ◌∷◌, ◌++◌}
use Rattle.ft_io.specs.declared.Key.{Key}
use Rattle.ft_io.specs.Key.{key_eq}
use Rattle.seq_arith.specs.Mark.{Mark, MarkBody}
use Rattle.seq_arith.specs.Mark.MarkBody.{MarkedMsg}
use Rattle.server_trait.specs.Service.{Machine}
use Rattle.server_trait.specs.declared.Service.{Ghosts}
use Rattle.ft_model.specs.Node.{Node, Place, Stage as law_stage, Input}
use Rattle.ft_model.specs.Node.Input.{Noise_comes, Tick_comes}
use Rattle.ft_model.specs.ServingTurn.{concerns}
use Rattle.ft_model.specs.Wire.{Wire}
use Rattle.mark_laws.specs.MarkedNode.{MarkedInput}
use Rattle.mark_laws.specs.MarkedNode.MarkedInput.{Plain_comes, Mark_comes}
use Rattle.conn_marks.specs.KeyMarks.{KeyMarks, marking_in, KeepsOthers}
use Rattle.conn_marks.specs.MarkSends.{mark_wire, mark_message}
use Rattle.node_serving.specs.declared.identity.Identity.{Identity}
use Rattle.node_serving.specs.declared.serving.Serving.{Serving}
use Rattle.node_serving.specs.declared.slot.Slot.{Slot}
use Rattle.node_serving.specs.declared.turn.Turn.{Turn}
use Rattle.node_serving.specs.Alone.{LeavesOthers, GoAlone, SlotsAlone}
use Rattle.node_serving.specs.Identity.{node_of, service_of, grammar_in}
use Rattle.node_serving.specs.Ownership.{IsOnlyFor}
use Rattle.node_serving.specs.Slots.{SlotStands, SlotGoes}

-- all these packets are those few, in order, with others among them of which this holds
abbrev pub AreAmong : (Wire → Type 0) → (few all : List Wire) → Type 0
AreAmong Is few [] = few ≡ []
AreAmong Is few (wire ∷ all) = ((rest : List Wire) × (few ≡ wire ∷ rest) × AreAmong Is rest all) ⊎ (Is wire × AreAmong Is few all)

-- a mark of this key's connection, made by this boot
abbrev pub IsMarkOf : (boot : ℕ) → Key → Wire → Type 0
IsMarkOf boot key wire = (mark : Mark) × (wire ≡ mark_wire (mark_message boot key mark))

-- only marks of this key are sent, after what was sent or among it, and only its marking changes
pub record MarksOnly (boot : ℕ) (key : Key) (was now : KeyMarks) (old new : List Wire) : Type 0 where
  pub others : KeepsOthers key was now
  pub among : AreAmong (IsMarkOf boot key) old new

-- an answer to a mark is about the key that it names
abbrev pub answers_for : MarkBody → Key → Bool
answers_for (MarkedMsg named reads) key = key_eq named key
answers_for _ key = false

abbrev pub concerns_marked : Node → MarkedInput → Key → Bool
concerns_marked node (Plain_comes input) key = concerns node input key
concerns_marked node (Mark_comes message) key = message.boot == node.boot && answers_for message.body key

-- a mark of a key that the input is about
abbrev pub IsMarkOfSubject : Node → MarkedInput → Wire → Type 0
IsMarkOfSubject node i wire = (key : Key) × (concerns_marked node i key ≡ true) × IsMarkOf node.boot key wire

-- the input of a node without marks, to which a message about marks is noise
abbrev pub plain_input : MarkedInput → Input
plain_input (Plain_comes input) = input
plain_input (Mark_comes message) = Noise_comes

-- a turn: but for its marks it is one of a node without marks, whose packets are `reported`. The markings of keys that the input isn't about stay
pub record GoesBesideMarks {S : Type 0} (service : Machine S) (node : Node) (i : MarkedInput) (was now : Serving S) (marks later : KeyMarks)
    (old new : List Wire) : Type 0 where
  pub reported : List Wire
  pub others : LeavesOthers node (plain_input i) was now reported
  pub alone : GoAlone service node (plain_input i) was now reported
  pub among : AreAmong (IsMarkOfSubject node i) (old ++ reported) new
  pub markings : (key : Key) → concerns_marked node i key ≡ false → marking_in later key ≡ marking_in marks key

-- a slot's tick: first its packets, and then its marks, among them
pub record SlotTicksBeside {S : Type 0} (service : Machine S) (who : Identity) (key : Key) (was now : Slot S) (old new : List Wire) : Type 0 where
  pub mid : List Wire
  pub only : IsOnlyFor (grammar_in who) key old mid
  pub goes : (standing : law_stage) (place : Place) → SlotStands service (node_of who standing) key was place
      → SlotGoes service (node_of who standing) Tick_comes key place now old mid
  pub among : AreAmong (IsMarkOf who.boot key) mid new

-- the tick of all slots
pub record AllTickBeside {S : Type 0} (service : Machine S) (node : Node) (was now : List (Key × Slot S)) (old new : List Wire) : Type 0 where
  pub reported : List Wire
  pub slots : SlotsAlone service node Tick_comes was now [] reported
  pub among : AreAmong (IsMarkOfSubject node (Plain_comes Tick_comes)) (old ++ reported) new

-- for a service, given by its ghost members, and an incarnation
module _ {S : Type 0} (s : Ghosts S) (who : Identity) where
  abbrev pub SlotTickBeside : Key → (was now : Slot S) → (old new : Turn) → Type 0
  SlotTickBeside key was now old new = SlotTicksBeside (service_of s who) who key was now old.sent.items new.sent.items

  abbrev pub SlotsTickBeside : (was now : List (Key × Slot S)) → (old new : Turn) → Type 0
  SlotsTickBeside was now old new = (standing : law_stage) → AllTickBeside (service_of s who) (node_of who standing) was now old.sent.items new.sent.items

  abbrev pub ServingTurnsBeside : MarkedInput → (was now : Serving S) → (marks later : KeyMarks) → (old new : Turn) → Type 0
  ServingTurnsBeside i was now marks later old new =
      (standing : law_stage) → GoesBesideMarks (service_of s who) (node_of who standing) i was now marks later old.sent.items new.sent.items
