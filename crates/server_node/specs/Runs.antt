-- A key's run: its turns one after another, in a node that serves others too.
use Rattle.std.specs.Prelude.{◌≡◌, Option, List, [], ◌∷◌}
use Rattle.ft_io.specs.declared.Key.{Key}
use Rattle.server_trait.specs.Service.{Machine}
use Rattle.ft_model.specs.Node.{Node, Place, Input}
use Rattle.ft_model.specs.Wire.{Wire}
use Rattle.node_serving.specs.declared.serving.Serving.{Serving}
use Rattle.server_node.specs.declared.stage.Stage.TheVariants as stage
use Rattle.node_serving.specs.Alone.{slot_of, StandsFor, IsNearFor, KeyGoes}
use Rattle.server_node.specs.StageAlone.{Alone}

-- a turn of a node that serves: the input, the node's state after it, and what it sent
pub record Turned (S : Type 0) : Type 0 where
  pub input : Input
  pub now : Serving S
  pub sent : List Wire

-- the node's state after these turns, newest first
abbrev pub served_by : {S : Type 0} → Serving S → List (Turned S) → Serving S
served_by first [] = first
served_by first (turn ∷ earlier) = turn.now

-- each of them is as the clause `alone` of a node's turn says
abbrev pub AreTurns : {S : Type 0} → Machine S → Node → Serving S → List (Turned S) → Type 0
AreTurns service node first [] = Unit {0}
AreTurns service node first (turn ∷ earlier) =
    AreTurns service node first earlier
    × Alone service node turn.input (stage.Serving (served_by first earlier)) (stage.Serving turn.now) turn.sent

-- each packet of the key's own client was near to the key's place at that time. Nothing is required of other packets
abbrev pub AreNearFor : {S : Type 0} → Machine S → Node → Key → Serving S → List (Turned S) → Type 0
AreNearFor service node key first [] = Unit {0}
AreNearFor service node key first (turn ∷ earlier) =
    AreNearFor service node key first earlier
    × ((place : Option Place) → StandsFor service node key (slot_of key (served_by first earlier)) place → IsNearFor node.server turn.input place)

-- all turns of the key, from this place to that one, are lawful, and its slot corresponds to its place after each
abbrev pub KeyRuns : {S : Type 0} → Machine S → Node → Key → Serving S → List (Turned S) → (start last : Option Place) → Type 0
KeyRuns service node key first [] start last = last ≡ start
KeyRuns service node key first (turn ∷ earlier) start last =
    (before : Option Place) × KeyRuns service node key first earlier start before
    × (goes : KeyGoes service node turn.input key before (served_by first earlier) turn.now turn.sent) × (last ≡ goes.after)

-- the key's run, at whose end its slot corresponds to its place
pub record RunsAlone {S : Type 0} (service : Machine S) (node : Node) (key : Key) (first : Serving S) (turns : List (Turned S))
    (start : Option Place) : Type 0 where
  pub last : Option Place
  pub runs : KeyRuns service node key first turns start last
  pub stands : StandsFor service node key (slot_of key (served_by first turns)) last
