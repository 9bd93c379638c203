use Rattle.std.proofs.Common.{subst}
use Rattle.server_node.specs.Marked.{IsSoundAt}
use Rattle.server_node.proofs.marked.lend.Goals as goal

pub returns-in-Serving-clause-sound : goal.returns-in-Serving-clause-sound
returns-in-Serving-clause-sound g c = λ who sound. c.conn_at.ensures.sound who (subst (IsSoundAt who) c.in-Serving.is sound).0
