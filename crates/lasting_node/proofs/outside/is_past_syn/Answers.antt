use Rattle.std.proofs.Common.{sym}
use Rattle.lasting_node.proofs.Shown.{past_others}
use Rattle.lasting_node.proofs.outside.is_past_syn.Goals as goal

pub returns-in_default : goal.returns-in_default
returns-in_default c = sym (past_others c.args.name c.in_default.not-SynReceived)
