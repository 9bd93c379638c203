-- The turns of a node that marks, while it serves, layer by layer.
use Rattle.std.specs.Prelude.{◌≡◌, ℕ, ◌+◌, Bool, true, List, [], ◌∷◌, ◌++◌, length}
use Rattle.ft_io.specs.declared.Key.{Key}
use Rattle.seq_arith.specs.Mark.{MarkMessage}
use Rattle.server_trait.specs.declared.Service.{Ghosts}
use Rattle.tcp_rules.specs.Profile.{grammar_of}
use Rattle.ft_model.specs.Node.{Node, Place, Stage as law_stage, Input, place_at}
use Rattle.ft_model.specs.Node.Input.{Tick_comes}
use Rattle.ft_model.specs.ServingTurn.{PlaceTurn, newcomers}
use Rattle.ft_model.specs.Wire.{Wire}
use Rattle.mark_laws.specs.Marking.{Marking, Outgoing}
use Rattle.mark_laws.specs.MarkedNode.{Marker, MarkedNode, GoesMarked, AllGoMarked, ServesMarked, ReceivesOfMark, marks_at}
use Rattle.conn_marks.specs.KeyMarks.{KeyMarks}
use Rattle.node_serving.specs.declared.identity.Identity.{Identity}
use Rattle.node_serving.specs.declared.serving.Serving.{Serving}
use Rattle.node_serving.specs.declared.slot.Slot.{Slot}
use Rattle.node_serving.specs.declared.turn.Turn.{Turn}
use Rattle.node_serving.specs.Identity.{node_of, service_of, grammar_in}
use Rattle.conn_marks.specs.Settled.{Keeps, IsSettledPlace, AllSettled, MarksPlace}
use Rattle.node_serving.specs.Markers.{Saving, marker_of, node_at}
use Rattle.conn_marks.specs.MarkSends.{AreOut}
use Rattle.node_serving.specs.ServingStage.{ServingStands}
use Rattle.node_serving.specs.Slots.{SlotStands, AllStand}
use Rattle.node_serving.specs.Turns.{IsNearForAll}

-- one slot's tick
pub record SlotTicks {S : Type 0} (by : Marker S) (node : Node) (marking : Key
    → Marking) (key : Key) (place : Place) (now : Slot S) (old new : List Wire) : Type 0 where
  pub after : Place
  pub sent : List Outgoing
  pub stands : SlotStands by.service node key now after
  pub goes : GoesMarked (PlaceTurn by.service node Tick_comes) (marks_at by node.boot true marking) place (after ∷ []) sent
  pub settled : IsSettledPlace by marking after
  pub out : AreOut (grammar_of node.profile) sent old new

-- the tick of all slots
pub record AllTick {S : Type 0} (by : Marker S) (node : Node) (marking : Key
    → Marking) (places : List Place) (now : List (Key × Slot S)) (old new : List Wire) : Type 0 where
  pub after : List Place
  pub sent : List Outgoing
  pub stands : AllStand by.service node now after
  pub go : AllGoMarked (GoesMarked (PlaceTurn by.service node Tick_comes) (marks_at by node.boot true marking)) places after sent
  pub settled : AllSettled by marking after
  pub out : AreOut (grammar_of node.profile) sent old new

-- the first slots have had their tick, and the others are as before
pub record FirstTick {S : Type 0} (by : Marker S) (node : Node) (marking : Key
    → Marking) (places : List Place) (i : ℕ) (now : List (Key × Slot S)) (old new : List Wire) : Type 0 where
  pub done : List Place
  pub left : List Place
  pub went : List Place
  pub sent : List Outgoing
  pub split : places ≡ done ++ left
  pub at : length went ≡ i
  pub stands : AllStand by.service node now (went ++ left)
  pub go : AllGoMarked (GoesMarked (PlaceTurn by.service node Tick_comes) (marks_at by node.boot true marking)) done went sent
  pub settled : AllSettled by marking went
  pub waiting : AllSettled by marking left
  pub out : AreOut (grammar_of node.profile) sent old new

-- the turn of a node that serves
pub record ServingGoesMarked {S : Type 0} (by : Marker S) (node : MarkedNode) (input : Input) (opened : ℕ) (places : List Place) (now : Serving S)
    (marks : KeyMarks) (old new : List Wire) : Type 0 where
  pub later : List Place
  pub marking : Key → Marking
  pub sent : List Outgoing
  pub stands : ServingStands by.service node.plain (opened + length (newcomers node.plain input opened places)) later now
  pub turn : ServesMarked by node input opened places later marking sent
  pub keeps : Keeps by marking marks
  pub settled : AllSettled by marking later
  pub out : AreOut (grammar_of node.plain.profile) sent old new

-- what an answer to a mark leads to
pub record ReceivedOfMark {S : Type 0} (by : Marker S) (node : MarkedNode) (places : List Place) (message : MarkMessage) (marks : KeyMarks)
    (old new : List Wire) : Type 0 where
  pub marking : Key → Marking
  pub sent : List Outgoing
  pub on_receipt : ReceivesOfMark by node places message.body sent (record node { marking = marking })
  pub keeps : Keeps by marking marks
  pub settled : AllSettled by marking places
  pub out : AreOut (grammar_of node.plain.profile) sent old new

-- for a service, given by its ghost members, and an incarnation
module _ {S : Type 0} (s : Ghosts S) (v : Saving S) (who : Identity) where
  abbrev pub SlotTicksMarked : KeyMarks → Key → (was now : Slot S) → (old new : Turn) → Type 0
  SlotTicksMarked marks key was now old new =
      (every : ℕ) (standing : law_stage) (marking : Key → Marking) (place : Place) → Keeps (marker_of s v who every) marking marks
      → IsSettledPlace (marker_of s v who every) marking place → SlotStands (service_of s who) (node_of who standing) key was place
      → SlotTicks (marker_of s v who every) (node_of who standing) marking key place now old.sent.items new.sent.items

  abbrev pub AllTickMarked : KeyMarks → (was now : List (Key × Slot S)) → (old new : Turn) → Type 0
  AllTickMarked marks was now old new =
      (every : ℕ) (standing : law_stage) (marking : Key → Marking) (places : List Place) → Keeps (marker_of s v who every) marking marks
      → AllSettled (marker_of s v who every) marking places → AllStand (service_of s who) (node_of who standing) was places
      → AllTick (marker_of s v who every) (node_of who standing) marking places now old.sent.items new.sent.items

  abbrev pub KeyMarked : Key → List (Key × Slot S) → (was now : KeyMarks) → (old new : Turn) → Type 0
  KeyMarked key slots was now old new =
      (every : ℕ) (standing : law_stage) (places : List Place) → was.every ≡ (marker_of s v who every).every
      → AllStand (service_of s who) (node_of who standing) slots places
      → MarksPlace (marker_of s v who every) (grammar_in who) who.boot key 0 (place_at key places) was now old.sent.items new.sent.items

  abbrev pub ServingTurnsMarked : Input → (was now : Serving S) → (marks later : KeyMarks) → (old new : Turn) → Type 0
  ServingTurnsMarked input was now marks later old new =
      (every : ℕ) (standing : law_stage) (awaits : Bool) (marking : Key → Marking) (opened : ℕ) (places : List Place)
      → IsNearForAll who.local input places → Keeps (marker_of s v who every) marking marks
      → AllSettled (marker_of s v who every) marking places → ServingStands (service_of s who) (node_of who standing) opened places was
      → ServingGoesMarked (marker_of s v who every) (node_at who standing awaits marking) input opened places now later old.sent.items new.sent.items

  abbrev pub ServingReceives : MarkMessage → Serving S → (marks later : KeyMarks) → (old new : Turn) → Type 0
  ServingReceives message now marks later old new =
      (every : ℕ) (standing : law_stage) (awaits : Bool) (marking : Key → Marking) (opened : ℕ) (places : List Place)
      → Keeps (marker_of s v who every) marking marks → AllSettled (marker_of s v who every) marking places
      → ServingStands (service_of s who) (node_of who standing) opened places now
      → ReceivedOfMark (marker_of s v who every) (node_at who standing awaits marking) places message later old.sent.items new.sent.items
