use Rattle.mark_laws.proofs.WorkedLegal.{is_legal}
use Rattle.mark_laws.proofs.WorkedTrace.{is_joint}
use Rattle.mark_laws.proofs.worked_restart_from_a_mark.Goals as goal

pub returns-clause-joint : goal.returns-clause-joint
returns-clause-joint c = is_joint

pub returns-clause-legal : goal.returns-clause-legal
returns-clause-legal c = is_legal
