-- The turn of a stage by the law, as in `Turns`, and how an input fences a node.
use Rattle.std.specs.Prelude.{◌≡◌, List, Some, None}
use Rattle.server_trait.specs.declared.Service.{Ghosts}
use Rattle.ft_model.specs.Lawful.{IsNearInput, IsSoundInput, fence}
use Rattle.ft_model.specs.Node.{Stage as law_stage, Input}
use Rattle.ft_model.specs.Wire.{Wire}
use Rattle.node_serving.specs.declared.identity.Identity.{Identity}
use Rattle.server_node.specs.declared.input.TurnEnd.{TurnEnd}
use Rattle.server_node.specs.declared.stage.Stage.{Stage}
use Rattle.node_serving.specs.Identity.{node_of, service_of}
use Rattle.server_node.specs.Stages.{StageStands, NodeGoes, IsFence}

-- for a service, given by its ghost members, and an incarnation
module _ {S : Type 0} (s : Ghosts S) (who : Identity) where
  -- the turn of a stage, and all that it sends, if a packet is near and a fetched entry is sound
  abbrev pub StageTurns : Input → (was now : Stage S) → (sent : List Wire) → Type 0
  StageTurns input was now sent =
      (standing : law_stage) → IsNearInput who.local input standing → IsSoundInput (service_of s who) (node_of who standing) input standing
      → StageStands (service_of s who) (node_of who standing) was
      → NodeGoes (service_of s who) (node_of who standing) input who now sent

-- an input doesn't fence the incarnation
abbrev pub IsUnfenced : Identity → Input → Type 0
IsUnfenced who input = (standing : law_stage) → fence (node_of who standing) input ≡ None

-- a turn ends by the larger boot number that its input names, or because memory ran out
abbrev pub IsFenceOf : Identity → Input → TurnEnd → Type 0
IsFenceOf who input end = IsFence end (λ newer. (standing : law_stage) → fence (node_of who standing) input ≡ Some newer)
