-- What holds of a node's turn whatever arrives, in whatever state its connections are, and whatever its log's entries are.
use Rattle.std.specs.Prelude.{List}
use Rattle.server_trait.specs.Service.{Machine}
use Rattle.ft_model.specs.Node.{Input}
use Rattle.ft_model.specs.Node.{Stage as law_stage}
use Rattle.ft_model.specs.Wire.{Wire}
use Rattle.node_serving.specs.declared.identity.Identity.{Identity}
use Rattle.server_node.specs.declared.stage.Stage.{Stage}
use Rattle.server_node.specs.StageAlone.{Others, IsUntouched, Alone, KnowsTurn}
use Rattle.node_serving.specs.Identity.{node_of}
use Rattle.server_node.specs.Restarts.{Restarts}

-- a turn leaves other keys alone, an input that is for nobody here changes nothing, each key has its turn, each entry is restarted by itself, and which clients
-- the node knows and whose openings are pending follows from what arrives
pub record TurnsApart {S : Type 0} (service : Machine S) (who : Identity) (input : Input) (was now : Stage S) (sent : List Wire) : Type 0 where
  pub others : (standing : law_stage) → Others (node_of who standing) input was now sent
  pub untouched : (standing : law_stage) → IsUntouched (node_of who standing) input was now sent
  pub alone : (standing : law_stage) → Alone service (node_of who standing) input was now sent
  pub restarts : (standing : law_stage) → Restarts service (node_of who standing) input was now sent
  pub known : (standing : law_stage) → KnowsTurn (node_of who standing) input was now
