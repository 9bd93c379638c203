use Rattle.std.proofs.Common.{sym}
use Rattle.lasting_node.proofs.Noted.{never_full}
use Rattle.lasting_node.proofs.arrivals.is_full.Goals as goal

pub returns-in_default : goal.returns-in_default
returns-in_default c = sym (never_full c.args.body.now c.in_default.not-Full)
