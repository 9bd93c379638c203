-- A node's turn.
use Rattle.std.specs.Prelude.{◌≡◌, List, ⊤}
use Rattle.std.specs.Borrow.{Fml, RattleType, MutBor, follows_so}
use mathlib.Core.Option.{none}
use Rattle.server_trait.specs.declared.Service.{Ghosts}
use Rattle.ft_model.specs.Node.{Input}
use Rattle.ft_model.specs.Wire.{Wire}
use Rattle.server_node.specs.contracts.node.Node.{the_row}
use Rattle.server_node.specs.declared.node.Node.{Node}
use Rattle.server_node.specs.Apart.{TurnsApart}
use Rattle.node_serving.specs.Identity.{service_of}
use Rattle.server_node.specs.StageTurns.{StageTurns}

-- a node's turn at this input, with the sent packets that it returns: it stays the same incarnation, and its turn is lawful, and lawful for each key by itself
pub record NodeTurns {S : Type 0} {s : Ghosts S} (input : Input) (was now : Node S s) (lent : List Wire) : Type 0 where
  pub who : now.who ≡ was.who
  pub sent : now.turn.sent.items ≡ lent
  pub turn : StageTurns s was.who input was.stage now.stage lent
  pub apart : TurnsApart (service_of s was.who) was.who input was.stage now.stage lent

module _ (S : RattleType) (s : Ghosts S.Denot) where
  -- A turn returns a borrow of the packets that it sent. So this says what holds of the node after the turn once that borrow has ended
  abbrev pub Leaves : MutBor (Node S.Denot s) → (Node S.Denot s → Type 0) → Fml
  Leaves node Holds = follows_so (the_row S s) (the_row S s) node.ghost_name none (λ _ _. ⊤) Holds
