use Rattle.std.proofs.Common.{sym}
use Rattle.lasting_node.proofs.Noted.{none_opened}
use Rattle.lasting_node.proofs.noting.opened_in.Goals as goal

pub returns-in_default : goal.returns-in_default
returns-in_default c = sym (none_opened c.args.body.now c.in_default.not-Opened)
