use Rattle.std.proofs.Common.{subst}
use Rattle.server_node.specs.Stages.{IsSoundStage}
use Rattle.server_node.specs.MarkedTurns.{NodeStandsAt}
use Rattle.server_node.proofs.stage.conn_in.Goals as goal

pub returns-in-Serving-clause-sound : goal.returns-in-Serving-clause-sound
returns-in-Serving-clause-sound g c = λ who sound. c.conn_at.ensures.sound who (subst (IsSoundStage who) c.in-Serving.is sound).0

pub returns-in-Marked-clause-sound : goal.returns-in-Marked-clause-sound
returns-in-Marked-clause-sound g c = λ who sound. c.lend.ensures.sound who (subst (IsSoundStage who) c.in-Marked.is sound)

pub returns-in-Marked-clause-marked : goal.returns-in-Marked-clause-marked
returns-in-Marked-clause-marked g c = λ by law st. c.lend.ensures.marked by law (subst (NodeStandsAt by law) c.in-Marked.is st)

pub returns-in-Serving-clause-marked : goal.returns-in-Serving-clause-marked
returns-in-Serving-clause-marked g c = λ by law st. absurd (subst (NodeStandsAt by law) c.in-Serving.is st)
